-- Lines and the words of a line.
use Rattle.std.proofs.Common.{◌≡◌, ◌==◌, ℕ, ◌<◌, List, [], ◌∷◌, ◌++◌, length, refl, sym, ap, ◌∙◌, arith}
use Rattle.std.specs.List.{onto_first}
use Rattle.std.proofs.lemmas.Bool.{ne_eqb}
use Rattle.std.proofs.lemmas.List.{append_assoc, length-append}
use Rattle.std.proofs.lemmas.List.Splits.{slice_split-cons_no, slice_split-cons_yes, length-slice_split}
use Rattle.text_lines.specs.Lines.{Lacks, IsCutAt, words_in}

-- the words of a line that begins with a word and a space
pub words_in-front : (front rest : List ℕ) → Lacks 32 front →
    words_in (front ++ (32 ∷ rest)) ≡ front ∷ words_in rest
words_in-front [] rest lacks = slice_split-cons_yes (λ b. b == 32) 32 rest refl
words_in-front (b ∷ front) rest lacks =
    slice_split-cons_no (λ b. b == 32) b (front ++ (32 ∷ rest)) (ne_eqb b 32 lacks.0)
    ∙ ap (onto_first b) (words_in-front front rest lacks.1)

-- a line without a space has one word
pub words_in-one : (line : List ℕ) → Lacks 32 line → words_in line ≡ line ∷ []
words_in-one [] lacks = refl
words_in-one (b ∷ line) lacks =
    slice_split-cons_no (λ b. b == 32) b line (ne_eqb b 32 lacks.0)
    ∙ ap (onto_first b) (words_in-one line lacks.1)

-- a line has a word
pub words_in_some : (line : List ℕ) → 0 < length (words_in line)
words_in_some line = omega (arith, length-slice_split (λ b. b == 32) line)

-- one word more is taken
pub word_taken : (words : List (List ℕ)) (word behind rest line : List ℕ) →
    IsCutAt 32 rest word behind → words ++ words_in rest ≡ words_in line →
    (words ++ word ∷ []) ++ words_in behind ≡ words_in line
word_taken words word behind rest line cut so_far =
    append_assoc words (word ∷ []) (words_in behind)
    ∙ ap (λ (ws : List (List ℕ)). words ++ ws)
    (sym (ap words_in cut.whole ∙ words_in-front word behind cut.first))
    ∙ so_far

-- the last word is taken
pub last_taken : (words : List (List ℕ)) (rest line : List ℕ) → Lacks 32 rest →
    words ++ words_in rest ≡ words_in line → words ++ rest ∷ [] ≡ words_in line
last_taken words rest line lacks so_far =
    ap (λ (ws : List (List ℕ)). words ++ ws) (sym (words_in-one rest lacks)) ∙ so_far

-- as many are left as were there
pub words_left : (words : List (List ℕ)) (rest line : List ℕ) →
    words ++ words_in rest ≡ words_in line → length words < length (words_in line)
words_left words rest line so_far =
    omega (arith, words_in_some rest, sym (length-append words (words_in rest)) ∙ ap length so_far)
