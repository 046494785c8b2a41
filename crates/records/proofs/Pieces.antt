-- The record at the front of the input.
use Rattle.std.proofs.Common.{◌≡◌, ℕ, ◌+◌, ◌≤◌, true, List, length, take, drop, slice_range, is_some, Some, None, Ok, Option, unwrap_or, sym, refl, ap, ◌∙◌, subst, arith}
use Rattle.std.proofs.lemmas.Bool.{le-ltb}
use Rattle.std.specs.Option.{ok_or}
use Rattle.records.specs.declared.record.Mark.{Mark}
use Rattle.records.specs.declared.record.Record.{Record}
use Rattle.records.specs.declared.record.Stage.{Stage}
use Rattle.records.specs.Cutting.{Taken}
use Rattle.records.specs.Records.{asks, mark_at, length_at, next_stage, RecordIs}

is_value : {A : Type 0} (o : Option A) (x : A) → is_some o ≡ true → o ≡ Some (unwrap_or o x)
is_value None x h = cc
is_value (Some y) x h = refl

pub front : (xs : List ℕ) (n : ℕ) → slice_range xs 0 n ≡ take n xs
front xs n = grind arith

pub is_known : {A E : Type 0} (o : Option A) (x : A) (e : E) → Ok x ≡ ok_or o e → o ≡ Some x
is_known None x e h = cc
is_known (Some y) x e h = cc

-- a record that passes each check is taken
pub takes : (colours width : ℕ) (before after : Stage) (at : ℕ) (input body : List ℕ) (piece : Record) (mark : Mark) (n : ℕ) →
    4 + n ≤ length input → n ≡ length_at input → mark_at input ≡ Some mark → is_some (next_stage before mark) ≡ true →
    after ≡ unwrap_or (next_stage before mark) before → asks colours width mark n ≡ true → body ≡ take n (drop 4 input) → RecordIs mark body piece →
    Taken colours width before at input piece after
takes colours width before after at input body piece mark n h e m s a l b p =
    let short = le-ltb (length input) 4 (omega arith) in
    let past = le-ltb (length input) (4 + length_at input) (omega arith) in
    let right : asks colours width mark (length_at input) ≡ true = rw (sym e) l in
    record {
      passed = rw (short, m, s, right, past);
      mark = mark;
      marked = m;
      is = subst (λ bytes. RecordIs mark bytes piece) (b ∙ ap (λ k. take k (drop 4 input)) e) p;
      next = is_value (next_stage before mark) before s ∙ ap Some (sym a);
    }
