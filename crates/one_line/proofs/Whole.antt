-- A whole line, refused or closed.
use Rattle.std.proofs.Common.{◌≡◌, ℕ, ◌+◌, ◌*◌, ◌/◌, ◌≤◌, List, [], ◌∷◌, reverse, length, take, drop, Some, None, Ok, Err, Result, sym, refl, ap, ◌∙◌, subst}
use mathlib.Core.List.{reverse-reverse}
use Rattle.std.proofs.lemmas.List.{length-reverse, take_at}
use Rattle.cost.specs.Kind.{Kind, Lawful}
use Rattle.display.specs.Machine.{Meaning, Lawful as Sound}
use Rattle.lines.specs.Checks.{and_then, answer, left, with_front}
use Rattle.lines.specs.declared.fault.Fault.{Fault}
use Rattle.run.specs.Promise.{Reports}
use Rattle.run.specs.Rivals.{Best}
use Rattle.run.proofs.Bridge.{reports_least}
use Rattle.run.proofs.Opened.{has_pixels, close_check_is, closed_best}
use Rattle.run.proofs.Steps.{taken_back, refused_back}
use Rattle.trellis.specs.Calls.{start_check, ready_check, short_buffers, pixels_of, picked_state, close_check, line_cost, with_line, closed as closing, closed_codes, closed_preview}
use Rattle.trellis.specs.Cells.{codes_back, colours_back}
use Rattle.trellis.specs.declared.plate.OpenLine.{OpenLine}
use Rattle.trellis.specs.declared.plate.Plate.{Plate}
use Rattle.trellis.specs.declared.plate.Report.{Report}
use Rattle.trellis.proofs.Back.{length_back}
use Rattle.trellis.proofs.Checking.{kept, renewed, first_stops, later_says}
use Rattle.viterbi.specs.declared.Cell.{Cell}
use Rattle.one_line.specs.Drawing.{blocked, picked_line}
use Rattle.one_line.specs.Filled.{Full, FilledRight}
use Rattle.one_line.specs.Lines.{wanted_of, figures_of, line_check, front_line, Draws}
use Rattle.one_line.proofs.Filling.{ready_is, and_then_assoc}
use Rattle.one_line.proofs.Passing.{best_is_picked}
use Rattle.one_line.proofs.Starting.{start_passed}
use Rattle.one_line.proofs.Pixels.{none_pinned}

module _ {C : Type 0} (m : Meaning) (k : Kind C) (bytes codes preview : List ℕ) where
  -- A refusal leaves the buffers.
  pub refused : (count : ℕ) (fault : Fault) → line_check m k count bytes codes preview ≡ Some fault → Draws m k count bytes codes preview (Err fault) codes preview
  refused count fault e = record {
    value = ap (λ ch. answer ch (figures_of m k (picked_line m k (wanted_of bytes)))) (sym e);
    coded = kept (line_check m k count bytes codes preview) fault _ codes e;
    previewed = kept (line_check m k count bytes codes preview) fault _ preview e;
    best = tt;
  }

  -- A line that was not filled is refused by the checks before close.
  pub fill_refuses : (count : ℕ) (start back : Plate C) (fault : Fault) (cells : List (Cell C)) → start ≡ record { lines = 0; total = k.zero } →
      FilledRight m k count start [] bytes (Err (back, fault)) cells → Draws m k count bytes codes preview (Err fault) codes preview
  fill_refuses count start back fault cells new filled =
      let n = length bytes / 3 in
      let short = short_buffers (length codes) (length preview) n in
      let check : and_then (start_check m count 0 n) (blocked m k [] (wanted_of bytes)) ≡ Some fault =
      ap (λ p. and_then (start_check m count p.lines n) (blocked m k [] (wanted_of bytes))) (sym new)
      ∙ ap (λ ps. and_then (start_check m count start.lines n) (blocked m k [] ps)) (sym (none_pinned bytes)) ∙ filled.1
      in
      refused count fault
      (and_then_assoc (start_check m count 0 n) (blocked m k [] (wanted_of bytes)) short
      ∙ first_stops (and_then (start_check m count 0 n) (blocked m k [] (wanted_of bytes))) short fault check)

  module _ (sound : Sound m) (law : Lawful k) (count : ℕ) (start : Plate C) (new : start ≡ record { lines = 0; total = k.zero }) (cells : List (Cell C)) (line : OpenLine C)
      (as_many : length cells ≡ count) (filled : FilledRight m k count start [] bytes (Ok line) cells) where
    rests : line.plate ≡ record { lines = 0; total = k.zero }
    rests = filled.0 ∙ new

    full : Full m k (length bytes / 3) (wanted_of bytes) line cells
    full = subst (λ pixels. Full m k (length bytes / 3) pixels line cells) (none_pinned bytes) filled.1

    starts : start_check m count 0 (length bytes / 3) ≡ None
    starts =
        ap (λ c. start_check m c 0 (length bytes / 3)) (sym as_many)
        ∙ ap (λ p. start_check m (length cells) p.lines (length bytes / 3)) (sym rests) ∙ full.starts

    long : length (reverse (wanted_of bytes)) ≡ length bytes / 3
    long = length-reverse (wanted_of bytes) ∙ full.long

    -- Close of a line that has all its pixels finds what its last check finds.
    close_is : close_check m k line cells codes preview ≡ line_check m k count bytes codes preview
    close_is =
        let n = length bytes / 3 in
        let passed = start_passed m count 0 n starts in
        close_check_is m k n (reverse (wanted_of bytes)) line cells full.drawn sound law codes preview
        ∙ ap (ready_check m (length cells) n (length codes) (length preview)) long
        ∙ ready_is m (length cells) n (length codes) (length preview) (subst (λ c. n * m.states + m.states ≤ c) (sym as_many) passed.2) passed.1
        ∙ sym (later_says (start_check m count 0 n) _ _ starts (later_says (blocked m k [] (wanted_of bytes)) _ _ full.passes refl))

    module _ (cs ps : List ℕ) (cs_are : cs ≡ closed_codes m k line cells codes preview) (ps_are : ps ≡ closed_preview m k line cells codes preview) where
      pub close_refuses : (back : OpenLine C) (fault : Fault) → ◌≡◌ {A = Result (Plate C × C) (OpenLine C × Fault)} (Err (back, fault)) (closing m k line cells codes preview) → Draws m k count bytes codes preview (Err fault) cs ps
      close_refuses back fault e =
          let check = (refused_back (close_check m k line cells codes preview) _ line back fault e).0 in
          let said = refused count fault (sym close_is ∙ check) in
          record {
            value = said.value;
            coded = cs_are ∙ sym (kept (close_check m k line cells codes preview) fault _ codes check) ∙ said.coded;
            previewed = ps_are ∙ sym (kept (close_check m k line cells codes preview) fault _ preview check) ∙ said.previewed;
            best = tt;
          }

      module _ (plate : Plate C) (cost : C) (taken : ◌≡◌ {A = Result (Plate C × C) (OpenLine C × Fault)} (Ok (plate, cost)) (closing m k line cells codes preview)) where
        check : close_check m k line cells codes preview ≡ None
        check = (taken_back {A = Plate C × C} (close_check m k line cells codes preview) _ (plate, cost) line taken).0

        comes : ◌≡◌ {A = Plate C × C} (plate, cost) (with_line k line.plate (line_cost m k line cells), line_cost m k line cells)
        comes = (taken_back {A = Plate C × C} (close_check m k line cells codes preview) _ (plate, cost) line taken).1

        closes : Best m k (front_line m k bytes cs ps cost)
        closes =
            subst (λ ws. Best m k (record { pixels = ws; codes = take (length bytes / 3) cs; preview = take (length bytes / 3) ps; cost = cost })) (reverse-reverse (wanted_of bytes))
            (closed_best m k (length bytes / 3) (reverse (wanted_of bytes)) line cells full.drawn sound law codes preview check (take (length bytes / 3) cs) (take (length bytes / 3) ps) cost
            (front cs _ cs_are) (front ps _ ps_are) (ap (λ y. y.1) comes))
          where
            front : (xs ys : List ℕ) → xs ≡ ys → take (length bytes / 3) xs ≡ take (length (reverse (wanted_of bytes))) ys
            front xs ys are = ap (take (length bytes / 3)) are ∙ ap (λ n. take n ys) (sym long)

        -- The line at the fronts is the one picked,
        is_picked : front_line m k bytes cs ps cost ≡ picked_line m k (wanted_of bytes)
        is_picked = best_is_picked m k (front_line m k bytes cs ps cost) closes

        -- and behind it the buffers are as they were.
        behind : (back : ℕ → ℕ → List ℕ) → ((n s : ℕ) → length (back n s) ≡ n) → (xs way buffer : List ℕ) →
            xs ≡ left (close_check m k line cells codes preview) (with_front (back (pixels_of line) (picked_state m k (pixels_of line) cells)) buffer) buffer →
            take (length bytes / 3) xs ≡ way → xs ≡ left (line_check m k count bytes codes preview) (with_front way buffer) buffer
        behind back sized xs way buffer are front =
            let ys = back (pixels_of line) (picked_state m k (pixels_of line) cells) in
            let written : xs ≡ with_front ys buffer = are ∙ sym (renewed (close_check m k line cells codes preview) _ buffer check) in
            let many : length ys ≡ length bytes / 3 = sized _ _ ∙ has_pixels m k (length bytes / 3) (reverse (wanted_of bytes)) line cells full.drawn ∙ long in
            let ys_are : ys ≡ way = sym (take_at ys (drop (length ys) buffer) (length bytes / 3) many) ∙ sym (ap (take (length bytes / 3)) written) ∙ front in
            written ∙ ap (λ zs. with_front zs buffer) ys_are ∙ renewed (line_check m k count bytes codes preview) _ buffer (sym close_is ∙ check)

        module _ (report : Report C) (reported : report ≡ record { lines = plate.lines; total = plate.total }) where
          report_is : report ≡ record { lines = 1; total = k.join k.zero cost }
          report_is =
              reported
              ∙ ap (λ q. record { lines = q.lines; total = q.total })
              (ap (λ y. y.0) comes ∙ ap (with_line k line.plate) (sym (ap (λ y. y.1) comes)) ∙ ap (λ q. with_line k q cost) rests)

          pub close_says : Draws m k count bytes codes preview (Ok (record { cost = cost; report = report })) cs ps
          close_says = record {
            value =
                ap (λ r. Ok (record { cost = cost; report = r })) report_is
                ∙ ap (λ l. Ok (figures_of m k l)) is_picked
                ∙ ap (λ ch. answer ch (figures_of m k (picked_line m k (wanted_of bytes)))) (sym (sym close_is ∙ check));
            coded = behind (codes_back m k cells) (length_back m k cells (codes_back m k cells) (λ _ cell. cell.code) (λ _. refl) (λ _ _. refl)) cs _ codes cs_are (ap (λ l. l.codes) is_picked);
            previewed = behind (colours_back m k cells) (length_back m k cells (colours_back m k cells) (λ s _. m.shown s) (λ _. refl) (λ _ _. refl)) ps _ preview ps_are (ap (λ l. l.preview) is_picked);
            best = record {
              best = closes;
              reports =
                  subst (λ r. Reports m k (front_line m k bytes cs ps cost ∷ []) r.lines r.total) (sym report_is)
                  (record { count = refl; total_is = refl; least = reports_least m k law (front_line m k bytes cs ps cost ∷ []) (closes, tt) });
            };
          }
