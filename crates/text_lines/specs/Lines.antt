-- A text is a header, lines, and the line `end`. Each line ends with a line feed, and its words are
-- parted by single spaces: where two spaces stand together, or one at an end of the line, a word is
-- empty.
-- "Texts" in docs/formats.md.
use Rattle.std.specs.Prelude.{ℕ, ◌≡◌, ◌≢◌, ◌==◌, List, [], ◌∷◌, ◌++◌, codes}
use Rattle.std.specs.List.{AllByRecursion, slice_split, join_with_byte}

-- the byte isn't among the bytes
abbrev pub Lacks : ℕ → List ℕ → Type 0
Lacks byte bytes = AllByRecursion (λ b. b ≢ byte) bytes

-- the bytes are cut at the first of a byte: what stands before it, and what behind
pub record IsCutAt (byte : ℕ) (bytes front rest : List ℕ) : Type 0 where
  pub first : Lacks byte front
  pub whole : bytes ≡ front ++ byte ∷ rest

-- the words of a line
abbrev pub words_in : List ℕ → List (List ℕ)
words_in line = slice_split (λ b. b == 32) line

-- the line of these words
abbrev pub line_of : List (List ℕ) → List ℕ
line_of words = join_with_byte 32 words

-- a word stands whole in a line: it isn't empty and has neither space nor line feed
pub record IsWord (word : List ℕ) : Type 0 where
  pub some : word ≢ []
  pub no_space : Lacks 32 word
  pub no_feed : Lacks 10 word

-- the line `end`
abbrev pub end_word : List ℕ
end_word = codes "end"

-- the lines of these, and then the rest
abbrev pub lines_then : {A : Type 0} → (A → List ℕ) → List A → List ℕ → List ℕ
lines_then spell [] rest = rest
lines_then spell (a ∷ items) rest = spell a ++ (10 ∷ lines_then spell items rest)

-- the header, the lines of these, and then the rest
abbrev pub text_then : {A : Type 0} → List ℕ → (A → List ℕ) → List A → List ℕ → List ℕ
text_then header spell items rest = header ++ (10 ∷ lines_then spell items rest)

-- the whole text of these
abbrev pub text_of : {A : Type 0} → List ℕ → (A → List ℕ) → List A → List ℕ
text_of header spell items = text_then header spell items (end_word ++ (10 ∷ []))
