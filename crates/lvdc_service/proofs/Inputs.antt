-- What came of an input.
use Rattle.std.proofs.Common.{◌≡◌, ℕ, ◌<◌, ◌≤◌, true, false, List, [], ◌∷◌, ◌++◌, length, Some, None, refl, sym, ap, ◌∙◌, subst, arith, length-append}
use Rattle.std.proofs.lemmas.List.{append-nil}
use Rattle.lvdc_text.specs.Causes.{Rose}
use Rattle.lvdc_text.specs.Streams.{SourceState}
use Rattle.lvdc_console.specs.Commands.{Command, command_of, reads_for, limit_of, input_of}
use Rattle.lvdc_service.specs.Frames.{frame_line_of, cut_line, longest_line, frame_at}
use Rattle.lvdc_service.specs.Reading.{IsOpen}
use Rattle.lvdc_service.proofs.Uses.{uses_more}
use Rattle.lvdc_service.proofs.Following.{frame_open, frame_misread, frame_short, frame_read}
use Rattle.lvdc_service.specs.declared.frame.Next.{Next}
use Rattle.lvdc_service.specs.declared.frame.Next.TheVariants.{Request as Asked, Ended, BadFrame, ReadFault}
use Rattle.lvdc_console.specs.Rack.{rack}
use Rattle.lvdc_console.specs.Over.{IsReplied}
use Rattle.lvdc_service.specs.Served.{reply_with, too_long_reply, memory_reply, IsReplyTo, too_long, replied, wants_memory}
use Rattle.lvdc_service.specs.Turns.{Stream, stream, Used, rest_of, IsNextInput, IsNoFrame, IsNext}

-- what a command reads is all that is given
pub reads_all : (command : Command) (given : List ℕ) → reads_for command ≡ true → input_of command given ≡ given
reads_all command given h = rw h refl

-- a command was carried out over what it reads of what is given
pub carried : (words : List (List ℕ)) (given bytes : List ℕ) (command : Command) (status : ℕ) (text : List ℕ) → command_of words ≡ Some command → input_of command given ≡ bytes
    → length bytes ≤ limit_of command → IsReplied rack command bytes status text → IsReplyTo (record { words = words; input = given }) (reply_with status text)
carried words given bytes command status text asked is few r =
    replied command status text asked (subst (λ (b : List ℕ). length b ≤ limit_of command) (sym is) few) (subst (λ (b : List ℕ). IsReplied rack command b status text) (sym is) r)

-- there was no memory for a command over what it reads of what is given
pub unremembered : (words : List (List ℕ)) (given bytes : List ℕ) (command : Command) → command_of words ≡ Some command → input_of command given ≡ bytes
    → length bytes ≤ limit_of command → IsReplyTo (record { words = words; input = given }) memory_reply
unremembered words given bytes command asked is few = wants_memory command asked (subst (λ (b : List ℕ). length b ≤ limit_of command) (sym is) few)

-- too many bytes are given
pub overlong : (words : List (List ℕ)) (given : List ℕ) (command : Command) → command_of words ≡ Some command → reads_for command ≡ true → limit_of command < length given
    → IsReplyTo (record { words = words; input = given }) too_long_reply
overlong words given command asked reads l = too_long command asked (subst (λ (b : List ℕ). limit_of command < length b) (sym (reads_all command given reads)) l)

-- what was done after nothing was done
pub from_same : {S : Type 0} (state : S → SourceState) (words : List (List ℕ)) (count : ℕ) (held now : List ℕ) (source later : S) (after : Stream) (next : Next)
    → now ≡ held → later ≡ source → IsNextInput words count (stream now (state later)) after next
    → IsNextInput words count (stream held (state source)) after next
from_same {S} state words count held now source later after next e f n =
    subst (λ (h : List ℕ). IsNextInput words count (stream h (state source)) after next) e
    (subst (λ (s : S). IsNextInput words count (stream now (state s)) after next) f n)

-- or nothing
pub reads_nothing : (command : Command) (given : List ℕ) → reads_for command ≡ false → input_of command given ≡ []
reads_nothing command given h = rw h refl

some_byte : (line input : List ℕ) → 0 < length ((line ++ 10 ∷ []) ++ input)
some_byte line input = omega (arith, length-append (line ++ 10 ∷ []) input, length-append line (10 ∷ []))

-- the line was used, and then the input
pub frame_of_input : (line : List ℕ) (words : List (List ℕ)) (count : ℕ) (before middle after : Stream) (next : Next)
    → Used before middle (line ++ 10 ∷ []) → ((more : List ℕ) → cut_line longest_line (line ++ 10 ∷ more) ≡ Some (record { front = line; rest = more }))
    → frame_line_of line ≡ Some (record { count = count; words = words }) → middle.source.faults ≡ before.source.faults
    → IsNextInput words count middle after next → IsNext before after next
frame_of_input line words count before middle after (Asked due) used cut said quiet n = record {
  request = record { words = words; input = n.input };
  used = (line ++ 10 ∷ []) ++ n.input;
  uses = uses_more used n.uses;
  frame = λ more. frame_read line n.input more count words cut said n.so_many;
  quiet = n.quiet ∙ quiet;
  reply = n.reply;
}
frame_of_input line words count before middle after Ended used cut said quiet n = absurd n
frame_of_input line words count before middle after BadFrame used cut said quiet n = record {
  used = (line ++ 10 ∷ []) ++ n.short.used;
  uses = uses_more used n.short.uses;
  some = some_byte line n.short.used;
  no_frame = ap (λ rest. frame_at (((line ++ 10 ∷ []) ++ n.short.used) ++ rest)) n.short.nothing
      ∙ ap frame_at (append-nil ((line ++ 10 ∷ []) ++ n.short.used)) ∙ frame_short line n.short.used count words cut said n.short.fewer;
  quiet = n.quiet ∙ quiet;
}
frame_of_input line words count before middle after ReadFault used cut said quiet n = record {
  rose = subst (λ k. Rose k after.source.faults) quiet n.rose;
  used = (line ++ 10 ∷ []) ++ n.used;
  uses = uses_more used n.uses;
}

-- no line ends
pub opened : (before after : Stream) → IsOpen before.held before.source.left after.held after.source.left → after.source.faults ≡ before.source.faults → IsNoFrame before after
opened before after o quiet = record {
  used = o.used;
  uses = o.uses;
  some = o.some;
  no_frame = frame_open (o.used ++ rest_of after) o.open_line;
  quiet = quiet;
}

-- the line is none of a frame
pub misread : (line : List ℕ) (before after : Stream) → Used before after (line ++ 10 ∷ [])
    → ((more : List ℕ) → cut_line longest_line (line ++ 10 ∷ more) ≡ Some (record { front = line; rest = more })) → frame_line_of line ≡ None
    → after.source.faults ≡ before.source.faults → IsNoFrame before after
misread line before after used cut said quiet = record {
  used = line ++ 10 ∷ [];
  uses = used;
  some = omega (arith, length-append line (10 ∷ []));
  no_frame = frame_misread line (rest_of after) cut said;
  quiet = quiet;
}
