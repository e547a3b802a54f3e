-- Reading a text line by line.
use Rattle.std.proofs.Common.{◌≡◌, ◌≢◌, ℕ, ◌+◌, List, [], ◌∷◌, ◌++◌, length, refl, sym, ap, ◌∙◌, subst}
use Rattle.std.proofs.lemmas.List.{append_assoc, append-nil}
use Rattle.sl_commands.specs.declared.fault.TextKind.{TextKind}
use Rattle.sl_commands.specs.declared.fault.TextKind.TheVariants.{Header, Ending}
use Rattle.text_lines.specs.Lines.{Lacks, IsCutAt, end_word, lines_then, text_then}
use Rattle.text_lines.specs.FirstFaults.{TextForm, MayAllFollow, IsText, FirstFault, no_line, no_header, wrong_line, no_end, behind_end, IsReadUpTo}

-- one more may follow
pub MayAllFollow-push : {A : Type 0} (form : TextForm A) (before items : List A) (a : A) →
    MayAllFollow form before items → form.Next (before ++ items) a →
    MayAllFollow form before (items ++ a ∷ [])
MayAllFollow-push {A} form before [] a follow next =
    (subst (λ (xs : List A). form.Next xs a) (append-nil before) next, tt)
MayAllFollow-push {A} form before (x ∷ items) a follow next = (
  follow.0,
  MayAllFollow-push form (before ++ x ∷ []) items a follow.1
      (subst (λ (xs : List A). form.Next xs a) (sym (append_assoc before (x ∷ []) items)) next),
)

-- the line of one more
pub lines_then-push : {A : Type 0} (spell : A → List ℕ) (items : List A) (a : A) (rest : List ℕ) →
    lines_then spell (items ++ a ∷ []) rest ≡ lines_then spell items (spell a ++ (10 ∷ rest))
lines_then-push spell [] a rest = refl
lines_then-push spell (x ∷ items) a rest =
    ap (λ (lines : List ℕ). spell x ++ (10 ∷ lines)) (lines_then-push spell items a rest)

-- one line more was read
pub line_read :
    {A : Type 0} (form : TextForm A) (bytes : List ℕ) (items : List A) (rest line behind : List ℕ)
    (a : A)
    → IsReadUpTo form bytes items rest → IsCutAt 10 rest line behind → line ≡ form.spell a →
    form.Next items a → IsReadUpTo form bytes (items ++ a ∷ []) behind
line_read form bytes items rest line behind a read cut is next = record {
  follow = MayAllFollow-push form [] items a read.follow next;
  spelled =
      read.spelled
      ∙ ap (λ (r : List ℕ). text_then form.header form.spell items r)
      (cut.whole ∙ ap (λ (l : List ℕ). l ++ (10 ∷ behind)) is)
      ∙ sym (ap (λ (lines : List ℕ). form.header ++ (10 ∷ lines))
      (lines_then-push form.spell items a behind));
}

-- the first line isn't the header
pub no_header_read : {A : Type 0} (form : TextForm A) (bytes first rest : List ℕ) →
    IsCutAt 10 bytes first rest → first ≢ form.header → FirstFault form bytes 1 Header
no_header_read form bytes first rest cut apart =
    no_header first rest cut.first cut.whole apart refl refl

-- the next line is wrong
pub wrong_read :
    {A : Type 0} (form : TextForm A) (bytes : List ℕ) (items : List A) (rest line behind : List ℕ)
    (kind : TextKind)
    → IsReadUpTo form bytes items rest → IsCutAt 10 rest line behind →
    (form.Due items → line ≢ end_word) → form.Wrong items line kind →
    FirstFault form bytes (length items + 2) kind
wrong_read form bytes items rest line behind kind read cut apart bad =
    wrong_line items line behind read.follow
    (read.spelled ∙ ap (λ (r : List ℕ). text_then form.header form.spell items r) cut.whole)
    cut.first apart bad refl

-- no line is left
pub none_read : {A : Type 0} (form : TextForm A) (bytes : List ℕ) (items : List A) (rest : List ℕ) →
    IsReadUpTo form bytes items rest → Lacks 10 rest →
    FirstFault form bytes (length items + 2) Ending
none_read form bytes items rest read lacks =
    no_end items rest read.follow read.spelled lacks refl refl

-- something follows `end`
pub more_read :
    {A : Type 0} (form : TextForm A) (bytes : List ℕ) (items : List A) (rest line behind : List ℕ)
    → IsReadUpTo form bytes items rest → IsCutAt 10 rest line behind → line ≡ end_word →
    form.Due items → behind ≢ [] → FirstFault form bytes (length items + 3) Ending
more_read form bytes items rest line behind read cut is due some =
    behind_end items behind read.follow
    (read.spelled ∙ ap (λ (r : List ℕ). text_then form.header form.spell items r)
    (cut.whole ∙ ap (λ (l : List ℕ). l ++ (10 ∷ behind)) is)) due some refl refl

-- `end` was read
pub end_read :
    {A : Type 0} (form : TextForm A) (bytes : List ℕ) (items : List A) (rest line behind : List ℕ)
    → IsReadUpTo form bytes items rest → IsCutAt 10 rest line behind → line ≡ end_word →
    form.Due items → behind ≡ [] → IsText form bytes items
end_read form bytes items rest line behind read cut is due none = record {
  follow = read.follow;
  due = due;
  spelled =
      read.spelled
      ∙ ap (λ (r : List ℕ). text_then form.header form.spell items r)
      (cut.whole ∙ ap (λ (l : List ℕ). l ++ (10 ∷ behind)) is
      ∙ ap (λ (b : List ℕ). end_word ++ (10 ∷ b)) none);
}
