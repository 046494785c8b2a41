use Rattle.viterbi.proofs.Survivor.{one_survivor}
use Rattle.viterbi.proofs.Picking.{pick_picked, pick_none}
use Rattle.viterbi.proofs.Lines.{survives_at}
use Rattle.viterbi.proofs.columns_stand.Goals as goal

pub returns : goal.returns
returns g c = record {
  survives = survives_at;
  determined = λ k law S K column p t. one_survivor k law _;
  picked = pick_picked;
  unpicked = pick_none;
}
