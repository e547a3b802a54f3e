-- While a text of a form is read line by line, a line is taken behind what the lines so far spell,
-- or it is wrong there. Where a line is wrong, so is the text, at that line.
-- "Faults of texts" in docs/rules.md.
use Rattle.std.specs.Prelude.{ℕ, ◌≡◌, List, [], ◌∷◌, ◌++◌, ⊤}
use Rattle.sl_commands.specs.declared.fault.TextKind.{TextKind}
use Rattle.sl_commands.specs.declared.fault.ReadText.{ReadText}
use Rattle.sl_commands.specs.declared.fault.ReadText.TheVariants.{Fault, Memory}
use Rattle.text_lines.specs.FirstFaults.{TextForm}
use Rattle.text_lines.specs.declared.form.Refused.{Refused}
use Rattle.text_lines.specs.declared.form.Refused.TheVariants.{Wrong, Memory as NoMemory}

-- the most lines of any form
abbrev pub max_form_lines : ℕ
max_form_lines = 4194304

-- the line is that of something that may stand behind those so far, and it now does
pub record IsTaken {A : Type 0} (form : TextForm A) (before : List A) (line : List ℕ)
    (after : List A) : Type 0 where
  pub item : A
  pub spelled : line ≡ form.spell item
  pub may : form.Next before item
  pub added : after ≡ before ++ item ∷ []

-- the line is wrong behind those so far, or there is no memory
abbrev pub IsRefused : {A : Type 0} → TextForm A → List A → List ℕ → Refused → Type 0
IsRefused form before line (Wrong kind) = form.Wrong before line kind
IsRefused form before line NoMemory = ⊤

-- the fault stands at this line and is of this kind
abbrev pub IsFaultAt : ℕ → TextKind → ReadText → Type 0
IsFaultAt line kind (Fault fault) = (fault.line ≡ line) × (fault.kind ≡ kind)
IsFaultAt line kind Memory = ⊥

-- why a line wasn't taken is why the text isn't read
abbrev pub IsReasonAt : ℕ → Refused → ReadText → Type 0
IsReasonAt line (Wrong kind) why = IsFaultAt line kind why
IsReasonAt line NoMemory why = why ≡ Memory

-- where there is a fault, the bytes are no such text
abbrev pub DeniesAll : {A : Type 0} → (A → Type 0) → ReadText → Type 0
DeniesAll {A} Is (Fault fault) = (items : A) → ¬ Is items
DeniesAll Is Memory = ⊤
