use Rattle.viterbi.proofs.Lines.{way_back, way_there, best_picked, passable_way, totals_grow}
use Rattle.viterbi.proofs.line_stands.Goals as goal

pub returns : goal.returns
returns g c = record {
  reached = λ k law S K start ps here ok t. (λ r. (way_back k law S K start here ps t r).way, λ w. (way_there k law S K start here w ok).1);
  least = λ k law S K start ps here ok t w. (way_there k law S K start here w ok).2;
  best = λ k law S K start ps here ok. best_picked k law S K start here ps ok;
  passes = λ k law S K start p ps here ok. passable_way k law S K start here ps ok p;
  totals = totals_grow;
}
