use Rattle.std.proofs.Common.{◌≡◌, ◌≤◌, ◌+◌, ◌++◌, drop, take, length}
use Rattle.lvdc_text.specs.Pieces.{AreFit, AreInRange, fields_text, fields_room}
use Rattle.lvdc_text.proofs.pieces.put_fields.Given as goal

-- what is appended so far and what is to come are the whole
abbrev pub invariant-loop-piece : goal.invariant-loop-piece
invariant-loop-piece l = record {
  fit : AreFit (drop l.piece-index l.pieces);
  text : l.out.items ++ fields_text (drop l.piece-index l.pieces) ≡ l.initial.out.items ++ fields_text l.pieces;
  short : length l.out.items + fields_room (drop l.piece-index l.pieces) ≤ length l.initial.out.items + fields_room l.pieces;
  ranges : AreInRange (drop l.piece-index l.pieces) → AreInRange l.pieces;
  front : take (length l.initial.out.items) l.out.items ≡ l.initial.out.items;
}
