-- What the calls on an open line say and leave, by its pixels alone, whatever the account.
use Rattle.std.proofs.Common.{◌≡◌, ℕ, suc, ◌+◌, ◌-◌, ◌*◌, ◌<◌, ◌≤◌, Bool, true, false, cond, List, [], ◌∷◌, map, reverse, length, take, drop, Some, None, Option, unwrap_or, sym, refl, ap, ◌∙◌, subst, arith}
use Rattle.std.proofs.lemmas.List.{length-map, take_at, length-reverse}
use Rattle.std.proofs.lemmas.Bool.{true≢false}
use Rattle.std.specs.List.{AllByRecursion}
use Rattle.cost.specs.Kind.{Kind, Lawful}
use Rattle.display.specs.Colours.{levels_of}
use Rattle.display.specs.Machine.{Meaning, Lawful as Sound}
use Rattle.display.specs.declared.colour.Target.{Target}
use Rattle.lines.specs.Checks.{and_then, left, with_front}
use Rattle.lines.specs.declared.fault.Fault.{Fault}
use Rattle.lines.specs.declared.fault.Fault.TheVariants.{NoWay, BrokenCells}
use Rattle.lines.proofs.Walks.{length-preview}
use Rattle.trellis.specs.declared.plate.OpenLine.{OpenLine}
use Rattle.trellis.specs.declared.plate.Plate.{Plate}
use Rattle.trellis.specs.Calls.{plate_full, bad_width, line_empty, start_check, early_check, ready_check, pixels_of, no_way, add_check, added, added_cells, struck, picked_state, broken_from, broken_cells, close_check, line_cost, closed_codes, closed_preview}
use Rattle.trellis.specs.Cells.{column_at, begun, extended, cell_at, sound_back, codes_back, colours_back}
use Rattle.trellis.specs.Stages.{stage}
use Rattle.trellis.proofs.Checking.{passed_both, enough_cells, next_fits, early_passed}
use Rattle.viterbi.specs.Columns.{pick, at, passable, traced_codes, traced_states}
use Rattle.viterbi.specs.Ways.{Way, begin, on}
use Rattle.viterbi.specs.declared.Cell.{Cell}
use Rattle.viterbi.proofs.Lines.{passable_way}
use Rattle.run.specs.Account.{Wanted}
use Rattle.run.specs.Rivals.{Best}
use Rattle.run.specs.Agreement.{stages_of, Holds, OpenRight}
use Rattle.run.proofs.Bridge.{column_of, within, closes_best}
use Rattle.run.proofs.Holding.{Follows, stage_follows, length-begun, length-extended, holds_begun, holds_extended, holds_last, can_extend_is, back_sound, back_codes, back_colours, holds_cost}

-- a check after which none finds a fault
and_then_none : (check : Option Fault) → and_then check None ≡ check
and_then_none None = refl
and_then_none (Some fault) = refl

-- where the last check finds nothing, there is a way on
pub can_pass : (b : Bool) (n : ℕ) → cond b None (Some (NoWay n)) ≡ None → b ≡ true
can_pass true n e = refl
can_pass false n e = absurd (true≢false (cc))

module _ {C : Type 0} (m : Meaning) (k : Kind C) where
  all_follow : (pixels : List Wanted) → AllByRecursion (Follows m k) (stages_of m k pixels)
  all_follow [] = tt
  all_follow (p ∷ pixels) = (stage_follows m k (levels_of p.target) p.pin, all_follow pixels)

  -- Start opens a line of no pixels.
  pub start_opens : (plate : Plate C) (cells : List (Cell C)) (width : ℕ) → start_check m (length cells) plate.lines width ≡ None →
      OpenRight m k width [] (record { plate = plate; width = width; left = width }) (begun m k cells) × (length (begun m k cells) ≡ length cells)
  start_opens plate cells width check =
      let later = (passed_both (plate_full plate.lines) _ check).1 in
      let fits = enough_cells m.states (length cells) width 0 (passed_both (bad_width width) _ later).1 in
      let column = column_fits width m.states (length cells) fits in
      (record { wide = refl; count = omega arith; holds = holds_begun m k cells column; way = (m.start, begin) }, length-begun m k cells column)
    where
      column_fits : (w S n : ℕ) → w * S + S ≤ n → S ≤ n
      column_fits w S n h = omega arith

  -- A pixel or a pin leaves the plate,
  pub added_plate : (line : OpenLine C) (cells : List (Cell C)) (target : Target) (pin : Option ℕ) → (added m k line cells target pin).plate ≡ line.plate
  added_plate line cells target pin = same (add_check m k line cells target pin)
    where
      same : (check : Option Fault) → (left check (record { plate = line.plate; width = line.width; left = line.left - 1 }) line).plate ≡ line.plate
      same None = refl
      same (Some fault) = refl

  -- and where it is refused, the line and the cells.
  pub add_leaves : (line : OpenLine C) (cells : List (Cell C)) (target : Target) (pin : Option ℕ) (fault : Fault) → add_check m k line cells target pin ≡ Some fault →
      (added m k line cells target pin ≡ line) × (added_cells m k line cells target pin ≡ cells)
  add_leaves line cells target pin fault check = (
    ap (λ ch. left ch (record { plate = line.plate; width = line.width; left = line.left - 1 }) line) check,
    ap (λ ch. left ch (extended m k (levels_of target) pin (pixels_of line) cells) cells) check,
  )

  -- Back strikes the last pixel.
  pub back_opens : (width : ℕ) (p : Wanted) (pixels : List Wanted) (line : OpenLine C) (cells : List (Cell C)) → OpenRight m k width (p ∷ pixels) line cells →
      line_empty (pixels_of line) ≡ None → OpenRight m k width pixels (struck line) cells
  back_opens width p pixels line cells right check =
      subst (λ l. OpenRight m k width pixels l cells) (sym (ap (λ ch. left ch (record { plate = line.plate; width = line.width; left = line.left + 1 }) line) check))
      (record { wide = right.wide; count = omega (arith, right.count); holds = right.holds.1; way = shorter right.way.1 })
    where
      shorter : {t : ℕ} → Way m.codes m.start (stages_of m k (p ∷ pixels)) t → (s : ℕ) × Way m.codes m.start (stages_of m k pixels) s
      shorter (on {s = s} w c below goes) = (s, w)

  module _ (width : ℕ) (pixels : List Wanted) (line : OpenLine C) (cells : List (Cell C)) (right : OpenRight m k width pixels line cells) where
    pub has_pixels : pixels_of line ≡ length pixels
    has_pixels = omega (arith, right.wide, right.count)

    as_long : length (stages_of m k pixels) ≡ length pixels
    as_long = length-map pixels (λ p. stage m k (levels_of p.target) p.pin)

    -- the same places, by how many pixels the line says that it has
    here : pixels_of line ≡ length (stages_of m k pixels)
    here = has_pixels ∙ sym as_long

    -- whether the next pixel is refused is seen from the pixels before it
    pub add_check_is : (p : Wanted) → add_check m k line cells p.target p.pin ≡
        and_then (early_check m (length cells) width p.pin (length pixels))
        (cond (passable k m.states m.codes (column_of m k pixels) (stage m k (levels_of p.target) p.pin)) None (Some (NoWay (length pixels))))
    add_check_is p =
        ap (λ w. and_then (early_check m (length cells) w p.pin (pixels_of line)) (no_way m k p.target p.pin (pixels_of line) cells)) right.wide
        ∙ ap (λ n. and_then (early_check m (length cells) width p.pin (pixels_of line)) (cond (passable k m.states m.codes (column_at m.states n cells) (stage m k (levels_of p.target) p.pin)) None (Some (NoWay (pixels_of line))))) here
        ∙ ap (λ b. and_then (early_check m (length cells) width p.pin (pixels_of line)) (cond b None (Some (NoWay (pixels_of line))))) (can_extend_is m k cells (stages_of m k pixels) right.holds (levels_of p.target) p.pin)
        ∙ ap (λ n. and_then (early_check m (length cells) width p.pin n) (cond (passable k m.states m.codes (column_of m k pixels) (stage m k (levels_of p.target) p.pin)) None (Some (NoWay n)))) has_pixels

    module _ (sound : Sound m) (law : Lawful k) where
      -- A pixel or a pin that is taken is the line's next.
      pub add_opens : (p : Wanted) → add_check m k line cells p.target p.pin ≡ None →
          OpenRight m k width (p ∷ pixels) (added m k line cells p.target p.pin) (added_cells m k line cells p.target p.pin)
          × (length (added_cells m k line cells p.target p.pin) ≡ length cells)
      add_opens p check =
          let q = stage m k (levels_of p.target) p.pin in
          let parts = passed_both (early_check m (length cells) width p.pin (length pixels)) _ (sym (add_check_is p) ∙ check) in
          let early = early_passed m (length cells) width p.pin (length pixels) parts.0 in
          let fits = next_fits m.states (length cells) width (length pixels) early.0 early.1 in
          let cells_are : added_cells m k line cells p.target p.pin ≡ extended m k (levels_of p.target) p.pin (length pixels) cells =
          ap (λ ch. left ch (extended m k (levels_of p.target) p.pin (pixels_of line) cells) cells) check
          ∙ ap (λ n. extended m k (levels_of p.target) p.pin n cells) has_pixels
          in
          let held : Holds m k (extended m k (levels_of p.target) p.pin (length pixels) cells) (stages_of m k (p ∷ pixels)) =
          subst (λ n. Holds m k (extended m k (levels_of p.target) p.pin n cells) (stages_of m k (p ∷ pixels))) as_long
          (holds_extended m k (levels_of p.target) p.pin (stages_of m k pixels) cells (rw as_long fits) right.holds)
          in
          let passes = can_pass (passable k m.states m.codes (column_of m k pixels) q) (length pixels) parts.1 in (
            subst (λ l. OpenRight m k width (p ∷ pixels) l (added_cells m k line cells p.target p.pin))
                (sym (ap (λ ch. left ch (record { plate = line.plate; width = line.width; left = line.left - 1 }) line) check))
                (subst (OpenRight m k width (p ∷ pixels) (record { plate = line.plate; width = line.width; left = line.left - 1 })) (sym cells_are)
                (record {
                  wide = right.wide;
                  count = one_less (length pixels) line.left width right.count early.1;
                  holds = held;
                  way = (passable_way k law m.states m.codes m.start sound.start_below (stages_of m k pixels) (within m k sound pixels) q).0 passes;
                })),
            ap length cells_are ∙ length-extended m k (levels_of p.target) p.pin (length pixels) cells fits,
          )
        where
          one_less : (n l w : ℕ) → n + l ≡ w → n < w → suc n + (l - 1) ≡ w
          one_less n l w h g = omega arith

      -- Close picks the state that the columns say,
      pub picked : (b : ℕ) × (pick k (column_of m k pixels) m.states ≡ Some b) × ((at k (column_of m k pixels) b).reached ≡ true)
          × Best m k (record {
            pixels = reverse pixels;
            codes = reverse (traced_codes k m.states m.codes m.start (stages_of m k pixels) b);
            preview = reverse (map m.shown (traced_states k m.states m.codes m.start (stages_of m k pixels) b));
            cost = (at k (column_of m k pixels) b).cost;
          })
      picked = closes_best m k sound law pixels right.way.0 right.way.1

      picks : pick k (column_at m.states (pixels_of line) cells) m.states ≡ Some picked.0
      picks =
          ap (λ n. pick k (column_at m.states n cells) m.states) here
          ∙ ap (λ column. pick k column m.states) (holds_last m k cells (stages_of m k pixels) right.holds) ∙ picked.1

      state_is : picked_state m k (pixels_of line) cells ≡ picked.0
      state_is = ap (λ o. unwrap_or o 0) picks

      -- at its cost,
      pub line_cost_is : line_cost m k line cells ≡ (at k (column_of m k pixels) picked.0).cost
      line_cost_is =
          ap (λ s. (cell_at m k (pixels_of line) s cells).cost) state_is
          ∙ ap (λ n. (cell_at m k n picked.0 cells).cost) here
          ∙ ap (λ cell. cell.cost) (holds_cost m k cells (stages_of m k pixels) right.holds picked.0)

      not_broken : broken_cells m k (pixels_of line) cells ≡ None
      not_broken =
          ap (broken_from m k (pixels_of line) cells) picks
          ∙ ap (λ b. cond b None (Some (BrokenCells (pixels_of line))))
          (ap (λ n. sound_back m k cells n picked.0) here
          ∙ back_sound m k cells (stages_of m k pixels) law sound.start_below right.holds (all_follow pixels) picked.0 picked.2)

      module _ (codes preview : List ℕ) where
        -- never meets cells that are not sound,
        pub close_check_is : close_check m k line cells codes preview ≡ ready_check m (length cells) width (length codes) (length preview) (length pixels)
        close_check_is =
            ap (and_then (ready_check m (length cells) line.width (length codes) (length preview) (pixels_of line))) not_broken
            ∙ and_then_none (ready_check m (length cells) line.width (length codes) (length preview) (pixels_of line))
            ∙ ap (λ w. ready_check m (length cells) w (length codes) (length preview) (pixels_of line)) right.wide
            ∙ ap (ready_check m (length cells) width (length codes) (length preview)) has_pixels

        module _ (check : close_check m k line cells codes preview ≡ None) where
          -- what close writes to the front of a buffer
          front : (back : ℕ → ℕ → List ℕ) (way buffer : List ℕ) → back (length (stages_of m k pixels)) picked.0 ≡ way → length way ≡ length pixels →
              take (length pixels) (left (close_check m k line cells codes preview) (with_front (back (pixels_of line) (picked_state m k (pixels_of line) cells)) buffer) buffer) ≡ way
          front back way buffer is long =
              ap (λ ch. take (length pixels) (left ch (with_front (back (pixels_of line) (picked_state m k (pixels_of line) cells)) buffer) buffer)) check
              ∙ ap (λ ys. take (length pixels) (with_front ys buffer)) (ap (back (pixels_of line)) state_is ∙ ap (λ n. back n picked.0) here ∙ is)
              ∙ take_at way (drop (length way) buffer) (length pixels) long

          codes_long : length (reverse (traced_codes k m.states m.codes m.start (stages_of m k pixels) picked.0)) ≡ length pixels
          codes_long = picked.3.rival.long ∙ length-reverse pixels

          -- and writes the codes and the colours of the way traced from it.
          pub closed_codes_are : take (length pixels) (closed_codes m k line cells codes preview) ≡ reverse (traced_codes k m.states m.codes m.start (stages_of m k pixels) picked.0)
          closed_codes_are = front (codes_back m k cells) _ codes (back_codes m k cells (stages_of m k pixels) right.holds picked.0) codes_long

          pub closed_preview_is : take (length pixels) (closed_preview m k line cells codes preview) ≡ reverse (map m.shown (traced_states k m.states m.codes m.start (stages_of m k pixels) picked.0))
          closed_preview_is =
              front (colours_back m k cells) _ preview (back_colours m k cells (stages_of m k pixels) right.holds picked.0)
              (ap length picked.3.shows ∙ length-preview m m.start _ ∙ codes_long)

          -- So the line that is closed is the best.
          pub closed_best : (cs ps : List ℕ) (cost : C) → cs ≡ take (length pixels) (closed_codes m k line cells codes preview) → ps ≡ take (length pixels) (closed_preview m k line cells codes preview) →
              cost ≡ line_cost m k line cells → Best m k (record { pixels = reverse pixels; codes = cs; preview = ps; cost = cost })
          closed_best cs ps cost codes_are preview_is cost_is =
              subst (λ x. Best m k (record { pixels = reverse pixels; codes = cs; preview = ps; cost = x })) (sym (cost_is ∙ line_cost_is))
              (subst (λ ys. Best m k (record { pixels = reverse pixels; codes = cs; preview = ys; cost = (at k (column_of m k pixels) picked.0).cost })) (sym (preview_is ∙ closed_preview_is))
              (subst (λ ys. Best m k (record { pixels = reverse pixels; codes = ys; preview = reverse (map m.shown (traced_states k m.states m.codes m.start (stages_of m k pixels) picked.0)); cost = (at k (column_of m k pixels) picked.0).cost })) (sym (codes_are ∙ closed_codes_are))
              picked.3))
