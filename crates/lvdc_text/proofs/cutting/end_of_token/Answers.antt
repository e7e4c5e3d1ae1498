use Rattle.std.proofs.Common.{◌≡◌, ◌-◌, length, take, drop, true, not, sym, ap, ◌∙◌, arith}
use Rattle.std.specs.List.{list_all}
use Rattle.lvdc_text.specs.Lines.{is_blank}
use Rattle.lvdc_text.proofs.FirstParts.{goes_on, one_more, token_ended, token_open}
use Rattle.lvdc_text.proofs.cutting.end_of_token.Goals as goal

pub loop-end-preserved : goal.loop-end-preserved
loop-end-preserved c = record {
  after = omega arith;
  within = omega arith;
  token = one_more (goes_on is_blank) c.args.start c.loop-end.end c.args.text.now (omega arith) c.loop-end-test.true c.loop-end.invariant.token (ap not (sym c.is_blank.ensures ∙ c.if-not-is_blank.true));
}

pub returns-else-not-is_blank-clause-token : goal.returns-else-not-is_blank-clause-token
returns-else-not-is_blank-clause-token c =
    token_ended c.args.start c.loop-end.end c.args.text.now c.loop-end.invariant.after c.loop-end-test.true c.loop-end.invariant.token (sym c.is_blank.ensures ∙ c.if-not-is_blank.false)

pub returns-after-loop-end-clause-token : goal.returns-after-loop-end-clause-token
returns-after-loop-end-clause-token c =
    let all : c.loop-end.end ≡ length c.args.text.now = omega arith in
    let token : list_all (goes_on is_blank) (take (length c.args.text.now - c.args.start) (drop c.args.start c.args.text.now)) ≡ true =
    ap (λ n. list_all (goes_on is_blank) (take (n - c.args.start) (drop c.args.start c.args.text.now))) (sym all) ∙ c.loop-end.invariant.token in
    rw all (token_open c.args.start c.args.text.now (omega arith) token)
