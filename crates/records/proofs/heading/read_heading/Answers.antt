use Rattle.std.proofs.Common.{length, Err, sym, ap, ◌∙◌, subst, rules}
use Rattle.std.specs.List.{between}
use Rattle.std.proofs.lemmas.List.{take_rest}
use Rattle.std.proofs.lemmas.Result.{err_from_is_err_and}
use Rattle.records.specs.declared.record.Record.TheVariants.{Palette as palette}
use Rattle.records.specs.declared.record.Stage.TheVariants.{Header as at_header}
use Rattle.records.specs.Cutting.{Taken}
use Rattle.records.proofs.Heads.{HeaderCut, HeaderRead, body_size, colours_out, heads, palette_out, within}
use Rattle.records.proofs.heading.read_heading.Goals as goal
use Rattle.records.proofs.heading.read_heading.Goals.{After-colour_count-colours, In-Header, In-Palette}

header_cut : (c : In-Header) → HeaderCut c.args.limit c.args.input.now c.in-Header.machine c.in-Header.cost c.in-Header.width c.cut.new.stage
header_cut c = record {
  size = c.if-input-limit.false;
  taken = subst (λ piece. Taken 0 0 at_header 0 c.args.input.now piece c.cut.new.stage) c.in-Header.is c.in_ok-machine.ensures;
}

header_read : (c : After-colour_count-colours) →
    HeaderRead c.args.limit c.args.input.now c.in_ok-machine-2.machine c.in_ok-machine-2.cost c.colour_count-colours.result c.in-Header.width c.cut.new.stage
header_read c = record {
  m = c.in-Header.machine;
  c = c.in-Header.cost;
  cut = header_cut (goal.at.slice_bounds-cut-count c).In-Header;
  right = c.in_ok-machine-2.ensures;
  count = c.colour_count-colours.ensures;
}

pub slice_bounds-cut-count : goal.slice_bounds-cut-count
slice_bounds-cut-count c = within (header_read c)

pub slice_bounds-cut-start : goal.slice_bounds-cut-start
slice_bounds-cut-start c = let h = within (header_read c) in search rules

pub returns-in_err-body : goal.returns-in_err-body
returns-in_err-body c =
    let p = err_from_is_err_and c.from_residual-in_err-body.result c.from_residual-in_err-body.ensures.1 in
    rw (p.1, p.2) (palette_out (header_read (goal.at.returns-in_err-body c).After-colour_count-colours) _ c.cut-2.new.stage (take_rest c.args.input.now 8) c.in_err-body.ensures)

palette_cut : (c : In-Palette) →
    Taken c.colour_count-colours.result c.in-Header.width c.cut.new.stage 8 (between 8 (length c.args.input.now) c.args.input.now) (palette c.in-Palette.body) c.cut-2.new.stage
palette_cut c =
    subst (λ piece. Taken c.colour_count-colours.result c.in-Header.width c.cut.new.stage 8 (between 8 (length c.args.input.now) c.args.input.now) piece c.cut-2.new.stage) c.in-Palette.is
    c.in_ok-body.ensures

pub returns-then-not-colours_are_right : goal.returns-then-not-colours_are_right
returns-then-not-colours_are_right c =
    ap Err c.into.ensures
    ∙ colours_out (header_read (goal.at.returns-then-not-colours_are_right c).After-colour_count-colours) (take_rest c.args.input.now 8) (palette_cut (goal.at.returns-then-not-colours_are_right c).In-Palette)
    (sym c.if-not-colours_are_right.true ∙ c.colours_are_right.ensures)

pub display_of-requires : goal.display_of-requires
display_of-requires c = body_size (header_read (goal.at.display_of-requires c).After-colour_count-colours) (take_rest c.args.input.now 8) (palette_cut (goal.at.display_of-requires c).In-Palette)

pub returns : goal.returns
returns c =
    heads (header_read (goal.at.returns c).After-colour_count-colours) (take_rest c.args.input.now 8) (palette_cut (goal.at.returns c).In-Palette) c.display_of.ensures
    (sym c.if-not-colours_are_right.false ∙ c.colours_are_right.ensures)
