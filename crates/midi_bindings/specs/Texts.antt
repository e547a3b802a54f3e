-- Bindings are a text: `looper bindings 1`, the lines of the bindings and `end`. There are at most
-- 1024 lines. A line may stand where its binding says nothing out of range. Where it may not, what
-- is wrong is the first of these: it is one line too many, it has no form, it is the line of no
-- binding.
-- "Bindings" in docs/formats.md.
use Rattle.std.specs.Prelude.{ℕ, ◌≡◌, ◌≢◌, ◌≤◌, ◌<◌, IsTrue, IsFalse, List, length, codes, ⊤}
use Rattle.std.specs.List.{AllByRecursion}
use Rattle.sl_base.specs.Limits.{max_binding_lines}
use Rattle.sl_commands.specs.declared.fault.TextKind.{TextKind}
use Rattle.sl_commands.specs.declared.fault.TextKind.TheVariants.{Form, Value, TooMany}
use Rattle.text_lines.specs.FirstFaults.{TextForm}
use Rattle.text_lines.specs.Lines.{words_in, text_of}
use Rattle.midi_bindings.specs.declared.binding.Binding.{Binding}
use Rattle.midi_bindings.specs.Lines.{binding_line, is_binding, is_form}

-- the first line
abbrev pub bindings_header : List ℕ
bindings_header = codes "looper bindings 1"

-- the text of bindings
abbrev pub bindings_text : List Binding → List ℕ
bindings_text bindings = text_of bindings_header binding_line bindings

-- the line of a binding may stand behind those of these
pub record MayStand (loops : ℕ) (before : List Binding) (binding : Binding) : Type 0 where
  pub room : length before < max_binding_lines
  pub valid : IsTrue (is_binding loops binding)

-- the line has no form, or it has one and is the line of no binding
abbrev pub HasNoBinding : ℕ → List ℕ → TextKind → Type 0
HasNoBinding loops line Form = IsFalse (is_form (words_in line))
HasNoBinding loops line Value = IsTrue (is_form (words_in line))
    × ((binding : Binding) → IsTrue (is_binding loops binding) → line ≢ binding_line binding)
HasNoBinding loops line _ = ⊥

-- what is wrong with a line behind those of these
pub data IsWrong (loops : ℕ) (before : List Binding) (line : List ℕ)
    (kind : TextKind) : Type 0 where
  -- it is one line too many
  one_too_many : max_binding_lines ≤ length before → kind ≡ TooMany → IsWrong loops before line kind
  -- it has no form, or is the line of no binding
  no_binding : length before < max_binding_lines → HasNoBinding loops line kind →
      IsWrong loops before line kind

-- bindings as a form of text: `end` may stand behind any line
abbrev pub bindings_form : ℕ → TextForm Binding
bindings_form loops =
    record {
      header = bindings_header;
      spell = binding_line;
      Next = MayStand loops;
      Due = λ before. ⊤;
      Wrong = IsWrong loops;
    }

-- the lines are those of bindings, for so many loops
pub record AreBindings (loops : ℕ) (bindings : List Binding) : Type 0 where
  pub few : length bindings ≤ max_binding_lines
  pub valid : AllByRecursion (λ binding. IsTrue (is_binding loops binding)) bindings

-- the bytes are the text of these bindings, for so many loops
pub record IsBindings (loops : ℕ) (bytes : List ℕ) (bindings : List Binding) : Type 0 where
  pub whole : AreBindings loops bindings
  pub spelled : bytes ≡ bindings_text bindings
