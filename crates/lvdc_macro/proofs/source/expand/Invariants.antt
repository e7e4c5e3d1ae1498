use Rattle.std.proofs.Common.{[], ◌≡◌, ◌≤◌, Result, All, IfSome, None}
use Rattle.lvdc_text.specs.Lines.{IsWithin, numbered}
use Rattle.lvdc_macro.specs.declared.fault.MacroFault.{MacroFault}
use Rattle.lvdc_macro.specs.declared.expansion.Expansion.{Expansion}
use Rattle.lvdc_macro.specs.Expansion.{expansion_of}
use Rattle.lvdc_macro.specs.Making.{lines_named, pending_of, state_of, Gives}
use Rattle.lvdc_macro.proofs.Stepping.{left_from}
use Rattle.lvdc_macro.proofs.source.expand.Given as goal

-- what is given from here on gives the whole
abbrev pub invariant-loop-index : goal.invariant-loop-index
invariant-loop-index l = record {
  begun : IfSome l.pending (λ begun. (begun.first ≤ l.index) × (lines_named l.macros begun.name.now ≡ None));
  bodies : All (λ entry. All (IsWithin l.bytes) entry.1) l.macros;
  rest : (r : Result Expansion MacroFault) → Gives r (left_from l.next (state_of l.bytes l.macros (pending_of l.bytes l.lines l.index l.pending) l.out) l.bytes l.lines l.index) l.out
      → Gives r (expansion_of (numbered l.bytes l.lines)) (record { bytes = []; origins = []; calls = 0 });
}
