use Rattle.std.proofs.Common.{◌≤◌, refl, map, length, drop, get_or, arith}
use Rattle.lvdc_macro.specs.Substitution.{substituted}
use Rattle.lvdc_macro.proofs.Substituting.{nothing_left, digit_replaced, byte_kept, front_is_short}
use Rattle.lvdc_macro.proofs.substitution.Call.substituted.Goals as goal
use Rattle.lvdc_macro.proofs.substitution.Call.substituted.Goals.{then-loop-at-test+else-len-lt-LONGEST_EXPANSION, else-loop-at-test}

pub loop-at-preserved-in-Some : goal.loop-at-preserved-in-Some
loop-at-preserved-in-Some c = record {
  within = c.in-Some.ensures.within;
  so_far = digit_replaced c.args.self.now.number (map (λ a. a.now) c.args.self.now.arguments.items) c.loop-at.at c.in-Some.digit c.args.text.now c.loop-at.out.items c.put.new.out.items
      (substituted c.args.self.now.number (map (λ a. a.now) c.args.self.now.arguments.items) c.args.text.now)
      c.in-Some.ensures.digit c.in-Some.ensures.some c.in_ok-put-in-Some.ensures c.loop-at.invariant.so_far;
}

pub loop-at-preserved : goal.loop-at-preserved
loop-at-preserved c = record {
  within = omega arith;
  so_far = byte_kept c.args.self.now.number (map (λ a. a.now) c.args.self.now.arguments.items) c.loop-at.at (get_or c.args.text.now c.loop-at.at 0) c.args.text.now c.loop-at.out.items c.push.new.self.items
      (substituted c.args.self.now.number (map (λ a. a.now) c.args.self.now.arguments.items) c.args.text.now)
      (c.in-None.ensures.none c.args.self.now.number (map (λ a. a.now) c.args.self.now.arguments.items)) c.in_ok-push-in-None.ensures.items c.loop-at.invariant.so_far;
}

pub returns-clause-line : goal.returns-clause-line
returns-clause-line c =
    nothing_left c.args.self.now.number (map (λ a. a.now) c.args.self.now.arguments.items) c.loop-at.at c.args.text.now c.loop-at.out.items ended c.loop-at.invariant.so_far
  where
    ended : length c.args.text.now ≤ c.loop-at.at
    ended = elim c.loop-at-test.branch [
      | then-loop-at-test+else-len-lt-LONGEST_EXPANSION w ↦ absurd (omega (arith, w.len.ensures, w.if-len-lt-LONGEST_EXPANSION.false, c.len-2.ensures, c.if-len-ge-LONGEST_EXPANSION.false))
      | else-loop-at-test w ↦ omega (arith, w.loop-at-test.false)
    ]

pub returns-clause-short : goal.returns-clause-short
returns-clause-short c = omega (arith, c.len-2.ensures, c.if-len-ge-LONGEST_EXPANSION.false)

pub returns-then-len-ge-LONGEST_EXPANSION-clause-refusal : goal.returns-then-len-ge-LONGEST_EXPANSION-clause-refusal
returns-then-len-ge-LONGEST_EXPANSION-clause-refusal c = λ free. (
  refl,
  front_is_short 1048576 c.loop-at.out.items (substituted c.args.self.now.number (map (λ a. a.now) c.args.self.now.arguments.items) (drop c.loop-at.at c.args.text.now)) (substituted c.args.self.now.number (map (λ a. a.now) c.args.self.now.arguments.items) c.args.text.now)
      c.loop-at.invariant.so_far (omega (arith, c.len-2.ensures, c.if-len-ge-LONGEST_EXPANSION.true)),
)
