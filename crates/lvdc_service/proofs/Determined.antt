-- A reply that tells no want of memory is the one that is due.
use Rattle.std.proofs.Common.{◌≡◌, true, false, List, [], ◌∷◌, length, map, None, Some, refl, sym, ap, ◌∙◌, arith, if◌then◌else◌}
use Rattle.std.specs.Prelude.{nat_lt}
use Rattle.std.specs.declared.option.Option.{Option}
use Rattle.std.proofs.lemmas.Bool.Decides.{nat_tests}
use Rattle.lvdc_console.specs.Commands.{Command, command_of, limit_of, answer_by, too_long_answer, command_answer, input_of}
use Rattle.lvdc_console.specs.Rack.{rack}
use Rattle.lvdc_service.specs.Frames.{Request}
use Rattle.lvdc_console.specs.declared.words.Inquiry.{Inquiry}
use Rattle.lvdc_console.specs.Words.{inquiry_of, most_bytes}
use Rattle.lvdc_console.specs.Replies.{inquiry_answer}
use Rattle.lvdc_service.specs.Served.{Reply, too_long_reply, reply_of, other_reply, reply_by, reply_to, IsReplyTo, usage, too_long, replied, inquiry_too_long, inquired, wants_memory, inquiry_wants_memory, AreReplies, IsUnhindered, AreUnhindered}

-- what a command's request is answered, by whether its input is too long
by_length : (request : Request) (command : Command) (long : _) → command_of request.words ≡ Some command → nat_lt (limit_of command) (length (input_of command request.input)) ≡ long
    → reply_to request ≡ reply_of (if long then too_long_answer rack else command_answer command (input_of command request.input) rack)
by_length request command long asked is =
    ap (λ (c : Option Command). reply_by c request) asked
    ∙ ap (λ (c : Option Command). reply_of (answer_by c request.input rack)) asked
    ∙ ap (λ l. reply_of (if l then too_long_answer rack else command_answer command (input_of command request.input) rack)) is

-- what an inquiry's request is answered, by whether its input is too long
by_inquiry : (request : Request) (inquiry : Inquiry) (long : _) → command_of request.words ≡ None → inquiry_of request.words ≡ Some inquiry
    → nat_lt (most_bytes inquiry) (length request.input) ≡ long
    → reply_to request ≡ (if long then too_long_reply else reply_of (inquiry_answer inquiry request.input rack))
by_inquiry request inquiry long none asked is =
    ap (λ (c : Option Command). reply_by c request) none
    ∙ ap (λ (q : Option Inquiry). other_reply q request) asked
    ∙ ap (λ l. if l then too_long_reply else reply_of (inquiry_answer inquiry request.input rack)) is

one_due : (request : Request) (reply : Reply) → IsUnhindered reply → IsReplyTo request reply → reply ≡ reply_to request
one_due request reply free (usage none other) =
    sym (ap (λ (c : Option Command). reply_by c request) none ∙ ap (λ (q : Option Inquiry). other_reply q request) other)
one_due request reply free (inquiry_too_long inquiry none asked l) =
    let long : nat_lt (most_bytes inquiry) (length request.input) ≡ true = grind (arith, nat_tests) in
    sym (by_inquiry request inquiry true none asked long)
one_due request reply free (inquired inquiry status text none asked few r) =
    let short : nat_lt (most_bytes inquiry) (length request.input) ≡ false = grind (arith, nat_tests) in
    ap reply_of r.is_reply ∙ sym (by_inquiry request inquiry false none asked short)
one_due request reply free (too_long command asked l) =
    let long : nat_lt (limit_of command) (length (input_of command request.input)) ≡ true = grind (arith, nat_tests) in
    sym (by_length request command true asked long)
one_due request reply free (replied command status text asked few r) =
    let short : nat_lt (limit_of command) (length (input_of command request.input)) ≡ false = grind (arith, nat_tests) in
    ap reply_of r.is_reply ∙ sym (by_length request command false asked short)
one_due request reply free (wants_memory command asked few) = absurd (free refl)
one_due request reply free (inquiry_wants_memory inquiry none asked few) = absurd (free refl)

both : (reply due : Reply) (replies all : List Reply) → reply ≡ due → replies ≡ all → reply ∷ replies ≡ due ∷ all
both reply due replies all e f = rw (e, f) refl

pub all_due : (requests : List Request) (replies : List Reply) → AreReplies requests replies → AreUnhindered replies → replies ≡ map reply_to requests
all_due [] [] are free = refl
all_due [] (reply ∷ replies) are free = absurd are
all_due (request ∷ requests) [] are free = absurd are
all_due (request ∷ requests) (reply ∷ replies) are free = both reply (reply_to request) replies (map reply_to requests) (one_due request reply free.0 are.0) (all_due requests replies are.1 free.1)
