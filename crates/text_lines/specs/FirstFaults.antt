-- A text is read line by line, and the first line with a fault counts.
-- A form of text says how its lines are spelled, what may follow what stands before, where `end` is
-- due, and what is wrong with a line that may not follow.
-- Only whole lines are judged. Where none is left and `end` hasn't come, or something follows
-- `end`, the fault stands at the line behind the last whole one that was good.
-- "Faults of texts" in docs/rules.md.
use Rattle.std.specs.Prelude.{ℕ, ◌≡◌, ◌≢◌, ◌+◌, List, [], ◌∷◌, ◌++◌, length, ⊤}
use Rattle.sl_commands.specs.declared.fault.TextKind.{TextKind}
use Rattle.sl_commands.specs.declared.fault.ReadText.{ReadText}
use Rattle.sl_commands.specs.declared.fault.ReadText.TheVariants.{Fault, Memory}
use Rattle.sl_commands.specs.declared.fault.TextKind.TheVariants.{Header, Ending}
use Rattle.text_lines.specs.Lines.{Lacks, end_word, text_then, text_of}

-- a form of text over the things that its lines spell: its first line, the spelling of each, which
-- may follow those before, where `end` is due, and of which kind a wrong line is
pub record TextForm (A : Type 0) : Type 1 where
  pub header : List ℕ
  pub spell : A → List ℕ
  pub Next : List A → A → Type 0
  pub Due : List A → Type 0
  pub Wrong : List A → List ℕ → TextKind → Type 0

-- each may follow those before it
abbrev pub MayAllFollow : {A : Type 0} → TextForm A → List A → List A → Type 0
MayAllFollow form before [] = Unit {0}
MayAllFollow form before (a ∷ items) = form.Next before a
    × MayAllFollow form (before ++ a ∷ []) items

-- the bytes are the text of these: each may follow, and `end` is due behind them
pub record IsText {A : Type 0} (form : TextForm A) (bytes : List ℕ) (items : List A) : Type 0 where
  pub follow : MayAllFollow form [] items
  pub due : form.Due items
  pub spelled : bytes ≡ text_of form.header form.spell items

-- the first fault of the bytes stands at this line and is of this kind
pub data FirstFault {A : Type 0} (form : TextForm A) (bytes : List ℕ) (line : ℕ)
    (kind : TextKind) : Type 0 where
  -- there is no whole line
  no_line : Lacks 10 bytes → line ≡ 1 → kind ≡ Ending → FirstFault form bytes line kind
  -- the first line isn't the header
  no_header : (first rest : List ℕ) → Lacks 10 first → bytes ≡ first ++ (10 ∷ rest) →
      first ≢ form.header → line ≡ 1 → kind ≡ Header → FirstFault form bytes line kind
  -- a whole line is wrong, and all before it are good; it isn't `end` where that is due
  wrong_line : (items : List A) (wrong rest : List ℕ) → MayAllFollow form [] items →
      bytes ≡ text_then form.header form.spell items (wrong ++ (10 ∷ rest)) → Lacks 10 wrong →
      (form.Due items → wrong ≢ end_word) → form.Wrong items wrong kind → line ≡ length items + 2 →
      FirstFault form bytes line kind
  -- all whole lines are good, and `end` isn't among them
  no_end : (items : List A) (rest : List ℕ) → MayAllFollow form [] items →
      bytes ≡ text_then form.header form.spell items rest → Lacks 10 rest →
      line ≡ length items + 2 → kind ≡ Ending → FirstFault form bytes line kind
  -- something follows `end`
  behind_end : (items : List A) (rest : List ℕ) → MayAllFollow form [] items →
      bytes ≡ text_then form.header form.spell items (end_word ++ (10 ∷ rest)) → form.Due items →
      rest ≢ [] → line ≡ length items + 3 → kind ≡ Ending → FirstFault form bytes line kind

-- a form is settled where each line that may follow is whole, isn't `end`, isn't wrong, and is
-- spelled by one thing alone, and where a wrong line has one kind of fault
pub record IsSettled {A : Type 0} (form : TextForm A) : Type 0 where
  pub whole_header : Lacks 10 form.header
  pub whole : (items : List A) (a : A) → form.Next items a → Lacks 10 (form.spell a)
  pub not_end : (items : List A) (a : A) → form.Next items a → form.spell a ≢ end_word
  pub one : (items : List A) (a b : A) → form.Next items a → form.Next items b →
      form.spell a ≡ form.spell b → a ≡ b
  pub good : (items : List A) (a : A) (kind : TextKind) → form.Next items a →
      ¬ form.Wrong items (form.spell a) kind
  pub one_kind : (items : List A) (line : List ℕ) (kind other : TextKind) →
      form.Wrong items line kind → form.Wrong items line other → kind ≡ other

-- these were read from the front of the bytes, and the rest is left
pub record IsReadUpTo {A : Type 0} (form : TextForm A) (bytes : List ℕ) (items : List A)
    (rest : List ℕ) : Type 0 where
  pub follow : MayAllFollow form [] items
  pub spelled : bytes ≡ text_then form.header form.spell items rest

-- why a text of a form wasn't read: its first fault, or want of memory
abbrev pub IsReason : {A : Type 0} → TextForm A → List ℕ → ReadText → Type 0
IsReason form bytes (Fault fault) = FirstFault form bytes fault.line fault.kind
IsReason form bytes Memory = ⊤
