use Rattle.std.proofs.Common.{is_ok, ◌≡◌, ◌++◌, ◌∷◌, [], ◌<◌, ℕ, List, length, false, sym, ap, refl, ◌∙◌, subst, arith, length-append}
use Rattle.std.proofs.lemmas.Bool.Decides.{nat_tests}
use Rattle.std.proofs.lemmas.List.{append-nil}
use Rattle.lvdc_text.specs.Lines.{is_line_feed}
use Rattle.lvdc_service.specs.Frames.{cut_line, longest_line}
use Rattle.lvdc_service.specs.Reading.{Uses, to_come}
use Rattle.lvdc_service.proofs.Uses.{uses_more, uses_same}
use Rattle.lvdc_service.proofs.CutLines.{HasNoFeed, no_feed_more, cut_ended, cut_open, cut_long}
use Rattle.lvdc_service.proofs.reader.Reader.line.Goals as goal

empty_is : (bytes : List ℕ) → length bytes ≡ 0 → bytes ≡ []
empty_is [] e = refl
empty_is (b ∷ bytes) e = absurd (omega arith)

other_byte : (b : ℕ) → (b ≡ 10 → ⊥) → is_line_feed b ≡ false
other_byte b h = grind (arith, nat_tests)

pub returns-then-byte-eq10-clause-line : goal.returns-then-byte-eq10-clause-line
returns-then-byte-eq10-clause-line g c =
    let i = c.loop-byte.invariant in
    let h = c.in-Ok-Some in
    let u = rw h.field-0-is at h.ensures.some in
    let used = uses_more i.uses u in (
      subst (λ b. Uses c.args.self.now (g.S.Source.state c.args.source.now).left c.byte.new.self (g.S.Source.state c.byte.new.source).left (c.loop-byte.line.items ++ b ∷ [])) c.if-byte-eq10.true used,
      λ more. cut_ended 255 c.loop-byte.line.items more i.no_feed i.few,
    )

pub returns-in-Err-try_push-clause-line : goal.returns-in-Err-try_push-clause-line
returns-in-Err-try_push-clause-line g c =
    let i = c.loop-byte.invariant in
    let h = c.in-Ok-Some in
    let u = rw h.field-0-is at h.ensures.some in
    let bytes = c.loop-byte.line.items ++ h.byte ∷ [] in
    record {
      used = bytes;
      uses = uses_more i.uses u;
      some = omega (arith, length-append c.loop-byte.line.items (h.byte ∷ []));
      open_line = cut_long 255 bytes (to_come c.byte.new.self (g.S.Source.state c.byte.new.source).left)
          (no_feed_more c.loop-byte.line.items h.byte i.no_feed (other_byte h.byte c.if-byte-eq10.false))
          (let full : length c.loop-byte.line.items ≡ 255 = c.in-Err-try_push.ensures.full in omega (arith, length-append c.loop-byte.line.items (h.byte ∷ [])));
    }

pub loop-byte-preserved : goal.loop-byte-preserved
loop-byte-preserved g c =
    let i = c.loop-byte.invariant in
    let h = c.in-Ok-Some in
    let u = rw h.field-0-is at h.ensures.some in
    let pushed = c.in-Ok.ensures.ok in
    let few : length c.loop-byte.line.items < 255 = c.try_push.ensures.variant.0 (ap is_ok c.in-Ok.is) in
    record {
      few = omega (arith, ap length pushed, length-append c.loop-byte.line.items (h.byte ∷ []));
      no_feed = subst HasNoFeed (sym pushed) (no_feed_more c.loop-byte.line.items h.byte i.no_feed (other_byte h.byte c.if-byte-eq10.false));
      uses = subst (Uses c.args.self.now (g.S.Source.state c.args.source.now).left c.byte.new.self (g.S.Source.state c.byte.new.source).left) (sym pushed) (uses_more i.uses u);
      quiet = c.in-Ok-Some.ensures.cause.quiet ∙ i.quiet;
    }

pub returns-then-len-eq0-clause-line : goal.returns-then-len-eq0-clause-line
returns-then-len-eq0-clause-line g c =
    let i = c.loop-byte.invariant in
    let h = c.in-Ok-None in
    let u = rw h.field-0-is at h.ensures.none in
    let none : c.loop-byte.line.items ≡ [] = empty_is c.loop-byte.line.items (omega arith) in
    (uses_same (subst (Uses c.args.self.now (g.S.Source.state c.args.source.now).left c.loop-byte.self (g.S.Source.state c.loop-byte.source).left) none i.uses) u.0, u.1)

pub returns-in-Ok-None-clause-line : goal.returns-in-Ok-None-clause-line
returns-in-Ok-None-clause-line g c =
    let i = c.loop-byte.invariant in
    let h = c.in-Ok-None in
    let u = rw h.field-0-is at h.ensures.none in
    record {
      used = c.loop-byte.line.items;
      uses = uses_same i.uses u.0;
      some = omega arith;
      open_line = ap (λ more. cut_line longest_line (c.loop-byte.line.items ++ more)) u.1 ∙ ap (cut_line longest_line) (append-nil c.loop-byte.line.items) ∙ cut_open 255 c.loop-byte.line.items i.no_feed;
    }

pub returns-in-Err-clause-failed : goal.returns-in-Err-clause-failed
returns-in-Err-clause-failed g c = (c.loop-byte.line.items, uses_same c.loop-byte.invariant.uses c.in-Err.ensures.failed)
