use Rattle.promotion_laws.proofs.Promotion.{is_life, is_promoted, is_legal, belongs}
use Rattle.promotion_laws.proofs.laws.promotions_go_on.Goals as goal

pub returns : goal.returns
returns c = record {
  life = λ moves list config moment life up k. (is_life moves list config moment life up k, is_promoted moves list config moment life up k);
  legal = is_legal;
  sent = belongs;
}
