-- What the reader of a form answers.
use Rattle.std.proofs.Common.{◌≡◌, ◌≢◌, ◌==◌, ℕ, ◌+◌, arith, true, false, Bool, List, [], ◌∷◌, ◌++◌, length, refl, sym, ap, ◌∙◌, subst, Result, Ok, Err, IfOk, IfErr}
use Rattle.std.proofs.lemmas.Bool.{eqb-true, false≢true}
use Rattle.sl_commands.specs.declared.fault.TextKind.{TextKind}
use Rattle.sl_commands.specs.declared.fault.ReadText.{ReadText}
use Rattle.sl_commands.specs.declared.fault.ReadText.TheVariants.{Fault, Memory}
use Rattle.text_lines.specs.Lines.{IsCutAt, end_word}
use Rattle.text_lines.specs.FirstFaults.{TextForm, FirstFault, IsText, IsReason, IsReadUpTo, IsSettled}
use Rattle.text_lines.specs.Taking.{IsTaken, IsRefused, IsFaultAt, IsReasonAt, DeniesAll}
use Rattle.text_lines.specs.declared.form.Refused.{Refused}
use Rattle.text_lines.specs.declared.form.Refused.TheVariants.{Wrong, Memory as NoMemory}
use Rattle.text_lines.proofs.LoopLemmas.{line_read, wrong_read}
use Rattle.text_lines.proofs.ReadingLemmas.{text_is_one, text_has_no_fault}

-- the fault that is told is the first
pub reason_at :
    {A : Type 0} (form : TextForm A) (bytes : List ℕ) (line at : ℕ) (kind : TextKind)
    (why : ReadText) → IsFaultAt line kind why → line ≡ at → FirstFault form bytes at kind →
    IsReason form bytes why
reason_at form bytes line at kind (Fault fault) told same first =
    subst (λ (n : ℕ). FirstFault form bytes n fault.kind) (sym (told.0 ∙ same))
    (subst (λ k. FirstFault form bytes at k) (sym told.1) first)
reason_at form bytes line at kind Memory told same first = absurd told

-- before the first line nothing was read
pub nothing_read : {A : Type 0} (form : TextForm A) (rest : List ℕ) (items : List A) →
    items ≡ [] → IsReadUpTo form (form.header ++ (10 ∷ rest)) items rest
nothing_read {A} form rest items none =
    subst (λ (l : List A). IsReadUpTo form (form.header ++ (10 ∷ rest)) l rest) (sym none)
    (record { follow = tt; spelled = refl })

-- bytes of which there are none, by the test
pub none_by_test : (bytes : List ℕ) (test : Bool) → test ≡ (length bytes == 0) → test ≡ true →
    bytes ≡ []
none_by_test [] test is passed = refl
none_by_test (b ∷ bytes) test is passed =
    (let zero_long : length (b ∷ bytes) ≡ 0 = eqb-true (length (b ∷ bytes)) 0 (sym is ∙ passed) in
    absurd (omega arith))

pub some_by_test : (bytes : List ℕ) (test : Bool) → test ≡ (length bytes == 0) → test ≡ false →
    bytes ≢ []
some_by_test bytes test is failed none =
    false≢true (sym failed ∙ is ∙ ap (λ (bs : List ℕ). length bs == 0) none)

-- a line that was taken was read
pub taken_read : {A : Type 0} (form : TextForm A) (bytes : List ℕ) (before after : List A)
    (rest line behind : List ℕ) → IsReadUpTo form bytes before rest →
    IsCutAt 10 rest line behind → IsTaken form before line after →
    IsReadUpTo form bytes after behind
taken_read {A} form bytes before after rest line behind read cut taken =
    subst (λ (items : List A). IsReadUpTo form bytes items behind) (sym taken.added)
    (line_read form bytes before rest line behind taken.item read cut taken.spelled taken.may)

-- a line that wasn't taken is the reason for the whole text
pub refused_reason :
    {A : Type 0} (form : TextForm A) (bytes : List ℕ) (before : List A)
    (rest line behind : List ℕ) (at : ℕ) (refused : Refused) (why : ReadText) →
    IsReadUpTo form bytes before rest → IsCutAt 10 rest line behind → line ≢ end_word →
    IsRefused form before line refused → IsReasonAt at refused why → at ≡ length before + 2 →
    IsReason form bytes why
refused_reason form bytes before rest line behind at (Wrong kind) why read cut apart wrong told
    same =
    reason_at form bytes at (length before + 2) kind why told same
    (wrong_read form bytes before rest line behind kind read cut (λ due. apart) wrong)
refused_reason form bytes before rest line behind at NoMemory why read cut apart wrong told same =
    subst (λ w. IsReason form bytes w) (sym told) tt

-- what the lines say, the bytes say
pub lines_found : {A B : Type 0} (form : TextForm A) (items : B → List A) (bytes text : List ℕ)
    (answer : Result B ReadText) → bytes ≡ text →
    IfOk answer (λ l. IsText form text (items l)) → IfOk answer (λ l. IsText form bytes (items l))
lines_found form items bytes text (Ok l) same is =
    subst (λ bs. IsText form bs (items l)) (sym same) is
lines_found form items bytes text (Err why) same is = tt

pub lines_fault : {A B : Type 0} (form : TextForm A) (bytes text : List ℕ)
    (answer : Result B ReadText) → bytes ≡ text → IfErr answer (IsReason form text) →
    IfErr answer (IsReason form bytes)
lines_fault form bytes text (Ok l) same is = tt
lines_fault form bytes text (Err why) same is =
    subst (λ bs. IsReason form bs why) (sym same) is

-- where bytes have a fault they are no text of a settled form
pub reason_denies : {A : Type 0} (form : TextForm A) (Is : List A → Type 0) (bytes : List ℕ)
    (why : ReadText) → IsSettled form →
    ((items : List A) → Is items → IsText form bytes items) → IsReason form bytes why →
    DeniesAll Is why
reason_denies form Is bytes (Fault fault) settled texts reason =
    λ items is. text_has_no_fault form settled bytes items fault.line fault.kind (texts items is)
    reason
reason_denies form Is bytes Memory settled texts reason = tt

-- and a text is that of its items alone
pub one_reading : {A : Type 0} (form : TextForm A) (Is : List A → Type 0) (bytes : List ℕ)
    (items others : List A) → IsSettled form →
    ((items : List A) → Is items → IsText form bytes items) → IsText form bytes items →
    Is others → others ≡ items
one_reading form Is bytes items others settled texts is is_too =
    text_is_one form settled bytes others items (texts others is_too) is
