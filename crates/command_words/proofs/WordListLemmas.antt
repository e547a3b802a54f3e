-- Options are read two words at a time, and three names stand before them.
use Rattle.std.proofs.Common.{◌≡◌, ℕ, zero, suc, ◌+◌, ◌<◌, ◌≤◌, List, [], ◌∷◌, length, map, drop, get_or, refl, sym, ap, ap₂, ◌∙◌, arith}
use Rattle.std.specs.Prelude.{Option, Some, None}
use Rattle.std.specs.Option.{option_and_then}
use Rattle.command_words.specs.Words.{options_in, render_in, drill_in}

-- one word alone is no option
pub one_left :
    {X G : Type 0} (text : X → List ℕ) (with : List ℕ → List ℕ → G → Option G) (words : List X)
    (at : ℕ) (g : G) → at < length words → at + 1 ≡ length words →
    options_in with (map text (drop at words)) g ≡ None
one_left text with [] at g inside last = absurd (omega arith)
one_left text with (w ∷ []) zero g inside last = refl
one_left text with (w ∷ v ∷ words) zero g inside last = absurd (omega (arith, last))
one_left text with (w ∷ words) (suc at) g inside last =
    one_left text with words at g (omega arith) (omega (arith, last))

-- two words are one
pub two_left :
    {X G : Type 0} (text : X → List ℕ) (with : List ℕ → List ℕ → G → Option G) (words : List X)
    (at : ℕ) (g : G) (x y : X) →
    at + 1 < length words → x ≡ get_or words at x → y ≡ get_or words (at + 1) y →
    options_in with (map text (drop at words)) g ≡ option_and_then
    (options_in with (map text (drop (at + 2) words))) (with (text x) (text y) g)
two_left text with [] at g x y inside first second = absurd (omega arith)
two_left text with (w ∷ []) zero g x y inside first second = absurd (omega arith)
two_left text with (w ∷ v ∷ words) zero g x y inside first second =
    ap₂ (λ (a : _) (b : _). option_and_then (options_in with (map text words))
    (with (text a) (text b) g)) (sym first) (sym second)
two_left text with (w ∷ words) (suc at) g x y inside first second =
    two_left text with words at g x y (omega arith) first
    (second ∙ ap (λ n. get_or (w ∷ words) n y)
    (let next : suc at + 1 ≡ suc (at + 1) = omega arith in next))
    ∙ ap (λ n. option_and_then (options_in with (map text (drop n (w ∷ words)))) (with (text x)
    (text y) g)) (let more : suc (at + 2) ≡ suc at + 2 = omega arith in more)

-- so the options so far with those that are left stay the same
pub options_on :
    {X G : Type 0} (text : X → List ℕ) (with : List ℕ → List ℕ → G → Option G) (words : List X)
    (at : ℕ) (g next : G) (x y : X) →
    at + 1 < length words → x ≡ get_or words at x → y ≡ get_or words (at + 1) y →
    Some next ≡ with (text x) (text y) g →
    options_in with (map text (drop (at + 2) words)) next
    ≡ options_in with (map text (drop at words)) g
options_on text with words at g next x y inside first second is =
    ap (option_and_then (options_in with (map text (drop (at + 2) words)))) is
    ∙ sym (two_left text with words at g x y inside first second)

-- fewer than three words ask for nothing
pub short_render : {X : Type 0} (text : X → List ℕ) (words : List X) → length words < 3 →
    render_in (map text words) ≡ None
short_render text [] short = refl
short_render text (a ∷ []) short = refl
short_render text (a ∷ b ∷ []) short = refl
short_render text (a ∷ b ∷ c ∷ words) short = absurd (omega arith)

-- fewer than two words make no drill, nor do more
pub short_drill : {X : Type 0} (text : X → List ℕ) (words : List X) → length words < 2 →
    drill_in (map text words) ≡ None
short_drill text [] short = refl
short_drill text (a ∷ []) short = refl
short_drill text (a ∷ b ∷ words) short = absurd (omega arith)

pub long_drill : {X : Type 0} (text : X → List ℕ) (words : List X) → 3 ≤ length words →
    drill_in (map text words) ≡ None
long_drill text [] long = absurd (omega arith)
long_drill text (a ∷ []) long = absurd (omega arith)
long_drill text (a ∷ b ∷ []) long = absurd (omega arith)
long_drill text (a ∷ b ∷ c ∷ words) long = refl
