-- Texts that are written in parts, one behind the other.
use Rattle.std.proofs.Common.{ℕ, ◌++◌, List, Option, Some, None, append_assoc, ◌∙◌, ap}
use Rattle.std.specs.Io.KnownBytes.{Appends}

-- two parts in a row are their text
pub appends_in_parts : (old mid new : Option (List ℕ)) (xs ys : List ℕ) → Appends old mid xs →
    Appends mid new ys → Appends old new (xs ++ ys)
appends_in_parts None mid new xs ys first second = tt
appends_in_parts (Some os) None new xs ys first second = absurd first
appends_in_parts (Some os) (Some ms) None xs ys first second = absurd second
appends_in_parts (Some os) (Some ms) (Some ns) xs ys first second =
    second ∙ (ap (λ zs. zs ++ ys) first ∙ append_assoc os xs ys)
