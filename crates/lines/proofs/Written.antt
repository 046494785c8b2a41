-- One more number of a list is written.
use Rattle.std.proofs.Common.{ℕ, ◌+◌, ◌<◌, List, [], ◌++◌, length, get_or, take, codes, sym, ap, ◌∙◌}
use Rattle.std.proofs.Output.{has_written_append, has_written_of_eq}
use Rattle.std.proofs.lemmas.List.{flat_map_more, take_more}
use Rattle.std.specs.Fmt.{HasWritten}
use Rattle.std.specs.declared.fmt.Formatter.{Formatter}
use Rattle.lines.specs.Texts.{spaced}

pub spaced_more : {W : Type 0} (took : W → List ℕ → W → Type 0) (text : ℕ → List ℕ) (ns : List ℕ) (i : ℕ) → i < length ns → {f g h : Formatter W} →
    HasWritten took f (spaced text (take i ns)) g → HasWritten took g (codes " " ++ text (get_or ns i 0)) h → HasWritten took f (spaced text (take (i + 1) ns)) h
spaced_more took text ns i k before more =
    has_written_of_eq took _ _ _ _
    (flat_map_more (λ n. codes " " ++ text n) [] (take i ns) (get_or ns i 0) ∙ sym (ap (spaced text) (take_more ns i 0 k)))
    (has_written_append took _ _ _ _ _ before more)
