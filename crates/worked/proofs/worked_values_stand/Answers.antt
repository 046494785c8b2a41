use Rattle.std.proofs.Common.{[], ◌∷◌, refl, lit<}
use Rattle.cost.specs.Kinds.{summed, worst, pair}
use Rattle.cost.specs.Same.{same_summed, same_pair}
use Rattle.cost.specs.contracts.summed.SummedCost.TheImpl.Laws as sums
use Rattle.cost.specs.contracts.worst.WorstCost.TheImpl.Laws as worsts
use Rattle.cost.specs.contracts.pair.PairCost.TheImpl.Laws as pairs
use Rattle.display.specs.Colours.{levels_of}
use Rattle.display.specs.contracts.ham.HamDisplayMachine.TheImpl.Laws as hams
use Rattle.display.specs.contracts.fill.FillDisplayMachine.TheImpl.Laws as fills
use Rattle.viterbi.specs.Ways.{begin, on}
use Rattle.worked.specs.Worked.{black, ham, white, white_ham, red_green, fill, first, second, full_red, full_green, yellow, free}
use Rattle.worked.proofs.Every.{none_nearer}
use Rattle.worked.proofs.Firsts.{closes_with}
use Rattle.worked.proofs.worked_values_stand.Goals as goal

pub returns : goal.returns
returns c =
    record {
      values = record {
        level_15 = refl;
        level_16 = refl;
        level_255 = refl;
        starts_black = refl;
        red = (3840, refl, refl);
        blue = (15, refl, refl);
        green = (240, refl, refl);
        half = (37, refl, refl);
        past_top = same_pair refl refl;
        before = refl;
        after = refl;
        green_blue_legal = (refl, (refl, tt));
        green_blue_shows = refl;
        green_blue_summed = same_summed refl;
        green_blue_worst = refl;
        green_blue_pair = same_pair refl refl;
        nearest_legal = (refl, (refl, tt));
        nearest_shows = refl;
        nearest_summed = same_summed refl;
        nearest_worst = refl;
        nearest_pair = same_pair refl refl;
        first_error = refl;
        first_nearest = none_nearer ham (hams.lawful-law black) 0 (levels_of first) 49 refl;
        second_error = refl;
        second_nearest = none_nearer ham (hams.lawful-law black) 2048 (levels_of second) 98 refl;
      };
      lines = record {
        editor_summed = closes_with ham summed (hams.lawful-law black) sums.lawful-law (free second ∷ free first ∷ []) (on (on begin 55 (lit< tt) refl) 23 (lit< tt) refl) refl (same_summed refl);
        editor_worst = closes_with ham worst (hams.lawful-law black) worsts.lawful-law (free second ∷ free first ∷ []) (on (on begin 55 (lit< tt) refl) 52 (lit< tt) refl) refl refl;
        white_register = closes_with white_ham summed (hams.lawful-law white) sums.lawful-law (free yellow ∷ free yellow ∷ []) (on (on begin 63 (lit< tt) refl) 47 (lit< tt) refl) refl (same_summed refl);
        fill_pair = closes_with fill pair (fills.lawful-law red_green) pairs.lawful-law (free full_green ∷ free full_red ∷ free full_red ∷ []) (on (on (on begin 1 (lit< tt) refl) 1 (lit< tt) refl) 2 (lit< tt) refl) refl (same_pair refl refl);
        fill_summed = closes_with fill summed (fills.lawful-law red_green) sums.lawful-law (free full_green ∷ free full_red ∷ free full_red ∷ []) (on (on (on begin 1 (lit< tt) refl) 0 (lit< tt) refl) 2 (lit< tt) refl) refl (same_summed refl);
      };
    }
