-- The header and the palette of a file, as cut gives them.
use Rattle.std.proofs.Common.{◌≡◌, ℕ, ◌+◌, ◌*◌, ◌≤◌, Bool, true, false, cond, ltb, List, length, get_or, drop, is_some, Some, None, Ok, Err, Option, Result, unwrap_or, sym, refl, ap, ◌∙◌, subst, arith, length-drop, Bor}
use Rattle.std.proofs.lemmas.List.{length-take-le}
use Rattle.std.proofs.lemmas.Bool.{eqb-true, le-ltb, ltb-false}
use Rattle.records.specs.declared.display_kind.AnyDisplay.{AnyDisplay}
use Rattle.records.specs.declared.display_kind.CostKind.{CostKind}
use Rattle.records.specs.declared.display_kind.CostKind.TheVariants.{Summed}
use Rattle.records.specs.declared.display_kind.MachineKind.{MachineKind}
use Rattle.records.specs.declared.fault.FileFault.{FileFault}
use Rattle.records.specs.declared.fault.FileFault.TheVariants.{Plate}
use Rattle.records.specs.declared.fault.PlateFault.TheVariants.{OutOfRange}
use Rattle.records.specs.declared.record.Mark.{Mark}
use Rattle.records.specs.declared.record.Mark.TheVariants.{Header, Palette, Pins, Line, End}
use Rattle.records.specs.declared.record.Record.{Record}
use Rattle.records.specs.declared.record.Record.TheVariants.{Header as header, Palette as palette}
use Rattle.records.specs.declared.record.Stage.{Stage}
use Rattle.records.specs.declared.record.Stage.TheVariants.{Header as at_header, Palette as at_palette, Lines as at_lines}
use Rattle.records.specs.Cutting.{Cuts, Taken, checked_header}
use Rattle.records.specs.Headings.{by_check, header_machine, header_width, heading, heading_of, palette_check}
use Rattle.records.specs.Letters.{colours_of, cost_of_letter, display_of, words}
use Rattle.records.specs.Records.{asks, body_at, header_right, length_at, mark_at, mark_check, next_stage, palette_right, record_check, RecordIs}

none_of : {A : Type 0} (b : Bool) (x : A) (o : Option A) → cond b (Some x) o ≡ None → (b ≡ false) × (o ≡ None)
none_of true x o h = (cc, cc)
none_of false x o h = (refl, h)

none_if : {A : Type 0} (b : Bool) (x : A) (o : Option A) → cond b o (Some x) ≡ None → (b ≡ true) × (o ≡ None)
none_if true x o h = (refl, h)
none_if false x o h = (cc, cc)

-- a record that passes 13 to 17 has the length that its mark asks, and stands in the input
pub passes : (colours width : ℕ) (before : Stage) (at : ℕ) (input : List ℕ) (mark : Mark) → record_check colours width before at input ≡ None → mark_at input ≡ Some mark →
    (asks colours width mark (length_at input) ≡ true) × (4 + length_at input ≤ length input)
passes colours width before at input mark p m =
    let some = none_of (ltb (length input) 4) _ _ p in
    let known : mark_check colours width before at input (Some mark) ≡ None = ap (mark_check colours width before at input) (sym m) ∙ some.1 in
    let placed = none_if (is_some (next_stage before mark)) _ _ known in
    let sized = none_if (asks colours width mark (length_at input)) _ _ placed.1 in
    let whole = none_of (ltb (length input) (4 + length_at input)) _ _ sized.1 in
    (sized.0, ltb-false _ _ whole.0)

header_alone : (mark : Mark) (after : Stage) → next_stage at_header mark ≡ Some after → (mark ≡ Header) × (after ≡ at_palette)
header_alone Header after h = (refl, cc)
header_alone Palette after h = (cc, cc)
header_alone Pins after h = (cc, cc)
header_alone Line after h = (cc, cc)
header_alone End after h = (cc, cc)

palette_alone : (mark : Mark) (after : Stage) → next_stage at_palette mark ≡ Some after → (mark ≡ Palette) × (after ≡ at_lines)
palette_alone Header after h = (cc, cc)
palette_alone Palette after h = (refl, cc)
palette_alone Pins after h = (cc, cc)
palette_alone Line after h = (cc, cc)
palette_alone End after h = (cc, cc)

pub ok_if : {A E : Type 0} (b : Bool) (x y : A) (e : E) → Ok x ≡ cond b (Ok y) (Err e) → (b ≡ true) × (x ≡ y)
ok_if true x y e h = (refl, cc)
ok_if false x y e h = (cc, cc)

err_if : {A E : Type 0} (b : Bool) (x : A) (e f : E) → Err f ≡ cond b (Ok x) (Err e) → (b ≡ false) × (f ≡ e)
err_if true x e f h = (cc, cc)
err_if false x e f h = (refl, cc)

-- the header is cut from an input that is not too long
pub record HeaderCut (limit : ℕ) (input : List ℕ) (m c w : ℕ) (after : Stage) : Type 0 where
  pub size : length input ≤ limit
  pub taken : Taken 0 0 at_header 0 input (header m c w) after

module _ {limit : ℕ} {input : List ℕ} {m c w : ℕ} {after : Stage} (h : HeaderCut limit input m c w after) where
  -- at its first stage the reader takes a header alone
  alone : (h.taken.mark ≡ Header) × (after ≡ at_palette)
  alone = header_alone h.taken.mark after h.taken.next

  is : (m ≡ get_or (body_at input) 0 0) × (c ≡ get_or (body_at input) 1 0) × (w ≡ header_width input)
  is = subst (λ mark. RecordIs mark (body_at input) (header m c w)) alone.0 h.taken.is

  right_is : header_right (get_or (body_at input) 0 0) (get_or (body_at input) 1 0) (header_width input) ≡ header_right m c w
  right_is = rw (sym is.0, sym is.1, sym is.2)

-- the header is right
pub record HeaderRead (limit : ℕ) (input : List ℕ) (machine : MachineKind) (cost : CostKind) (colours w : ℕ) (after : Stage) : Type 0 where
  pub m : ℕ
  pub c : ℕ
  pub cut : HeaderCut limit input m c w after
  pub right : Ok (machine, cost) ≡ checked_header m c w
  pub count : colours ≡ colours_of machine

module _ {limit : ℕ} {input : List ℕ} {machine : MachineKind} {cost : CostKind} {colours w : ℕ} {after : Stage} (h : HeaderRead limit input machine cost colours w after) where
  yes_right : header_right h.m h.c w ≡ true
  yes_right = (ok_if (header_right h.m h.c w) _ _ _ h.right).0

  -- the palette is left to check
  palette_left : heading limit input ≡ by_check (palette_check input) (heading_of input)
  palette_left = rw (le-ltb limit (length input) h.cut.size, h.cut.taken.passed, right_is h.cut, yes_right)

  values : ◌≡◌ {A = MachineKind × CostKind} (machine, cost) (header_machine input, unwrap_or (cost_of_letter (get_or (body_at input) 1 0)) Summed)
  values = (ok_if (header_right h.m h.c w) _ _ _ h.right).1 ∙ rw ((is h.cut).0, (is h.cut).1)

  machine_is : machine ≡ header_machine input
  machine_is = ap (λ p. p.0) values

  colours_is : colours ≡ colours_of (header_machine input)
  colours_is = h.count ∙ ap colours_of machine_is

  pub within : 8 ≤ length input
  within =
      let t = h.cut.taken in
      let sized = passes 0 0 at_header 0 input Header t.passed (t.marked ∙ ap Some (alone h.cut).0) in
      omega (arith, eqb-true (length_at input) 4 sized.0, sized.1)

  -- what is cut next, in the terms of the input
  next_cut : {part : List ℕ} (r : Result Record FileFault) (last : Stage) → part ≡ drop 8 input → Cuts colours w after 8 part r last →
      Cuts (colours_of (header_machine input)) (header_width input) at_palette 8 (drop 8 input) r last
  next_cut {part} r last rest cuts =
      let a = subst (λ n. Cuts n w after 8 part r last) colours_is cuts in
      let b = subst (λ n. Cuts (colours_of (header_machine input)) n after 8 part r last) (is h.cut).2 a in
      let d = subst (λ stage. Cuts (colours_of (header_machine input)) (header_width input) stage 8 part r last) (alone h.cut).1 b in
      subst (λ bytes. Cuts (colours_of (header_machine input)) (header_width input) at_palette 8 bytes r last) rest d

  pub palette_out : {part : List ℕ} (fault : FileFault) (last : Stage) → part ≡ drop 8 input → Cuts colours w after 8 part (Err fault) last → Err fault ≡ heading limit input
  palette_out fault last rest cuts = rw (palette_left, (next_cut (Err fault) last rest cuts).0)

  module _ {part : List ℕ} {body : Bor (List ℕ)} {last : Stage} (rest : part ≡ drop 8 input) (cuts : Taken colours w after 8 part (palette body) last) where
    taken : Taken (colours_of (header_machine input)) (header_width input) at_palette 8 (drop 8 input) (palette body) last
    taken = next_cut (Ok (palette body)) last rest cuts

    -- at its second stage the reader takes a palette alone
    palette_mark : taken.mark ≡ Palette
    palette_mark = (palette_alone taken.mark last taken.next).0

    body_is : body.now ≡ body_at (drop 8 input)
    body_is = subst (λ mark. RecordIs mark (body_at (drop 8 input)) (palette body)) palette_mark taken.is

    right_colours : (b : Bool) → b ≡ palette_right body.now → palette_right (body_at (drop 8 input)) ≡ b
    right_colours b e = ap palette_right (sym body_is) ∙ sym e

    sizes : (length body.now ≡ length_at (drop 8 input)) × (length_at (drop 8 input) ≡ 2 * colours_of (header_machine input))
    sizes =
        let p = passes (colours_of (header_machine input)) (header_width input) at_palette 8 (drop 8 input) Palette taken.passed (taken.marked ∙ ap Some palette_mark) in
        let n = length-take-le (length_at (drop 8 input)) (drop 4 (drop 8 input)) (simp length-drop (omega (arith, p.1, length-drop 8 input))) in
        (ap length body_is ∙ n, eqb-true (length_at (drop 8 input)) (2 * colours_of (header_machine input)) p.0)

    pub body_size : length body.now ≡ 2 * colours_of machine
    body_size = sizes.0 ∙ sizes.1 ∙ ap (λ kind. 2 * colours_of kind) (sym machine_is)

    pub colours_out : false ≡ palette_right body.now → Err (Plate (OutOfRange 8)) ≡ heading limit input
    colours_out wrong = rw (palette_left, taken.passed, right_colours false wrong)

    pub heads : {display : AnyDisplay} → display ≡ display_of machine (words body.now) → true ≡ palette_right body.now →
        Ok (record { display = display; cost = cost; colours = colours; width = w; at = 12 + length body.now }) ≡ heading limit input
    heads {display} shown right =
        let display_is : display ≡ display_of (header_machine input) (words (body_at (drop 8 input))) = shown ∙ rw (machine_is, body_is) in
        let cost_is : cost ≡ unwrap_or (cost_of_letter (get_or (body_at input) 1 0)) Summed = ap (λ p. p.1) values in
        rw (palette_left, taken.passed, right_colours true right, display_is, cost_is, colours_is, (is h.cut).2, sizes.0)
