-- A file of bindings is read for the number of loops. What is wrong with it has a number and a
-- line: 0 and 0 where it is missing, else the kind and the line of the text's first fault. Where no
-- file is named there are no bindings.
-- "The files of a live session" in docs/formats.md.
use Rattle.std.specs.Prelude.{◌≡◌, ℕ, List, [], Option, Some, None}
use Rattle.sl_commands.specs.declared.fault.TextKind.{TextKind}
use Rattle.sl_commands.specs.TextFaults.{kind_number}
use Rattle.sl_ports.specs.Files.{Files, Holds}
use Rattle.text_lines.specs.FirstFaults.{FirstFault}
use Rattle.midi_bindings.specs.declared.binding.Binding.{Binding}
use Rattle.midi_bindings.specs.Texts.{IsBindings, bindings_form}

-- the file under the name is the text of these bindings, for so many loops
pub record HoldsBindings (files : Option Files) (name : List ℕ) (loops : ℕ)
    (bindings : List Binding) : Type 0 where
  pub bytes : List ℕ
  pub there : Holds files name (Some bytes)
  pub text : IsBindings loops bytes bindings

-- it is missing, or is no such text for so many loops, for the reason with this number, at this
-- line
pub data LacksBindings (files : Option Files) (name : List ℕ) (loops kind line : ℕ) : Type 0 where
  no_bindings_file : Holds files name None → kind ≡ 0 → line ≡ 0 →
      LacksBindings files name loops kind line
  bad_bindings_text : (bytes : List ℕ) → Holds files name (Some bytes) → (text_kind : TextKind) →
      FirstFault (bindings_form loops) bytes line text_kind → kind ≡ kind_number text_kind →
      LacksBindings files name loops kind line

-- the file of bindings of this name is the bad file, for so many loops
pub record IsBadBindings (files : Option Files) (bind : List ℕ) (loops : ℕ) (name : List ℕ)
    (kind line : ℕ) : Type 0 where
  pub named : name ≡ bind
  pub lacks : LacksBindings files bind loops kind line

-- the bindings for so many loops: those of the file that is named, or none
abbrev pub Binds : Option Files → Option (List ℕ) → ℕ → List Binding → Type 0
Binds files None loops bindings = bindings ≡ []
Binds files (Some bind) loops bindings = HoldsBindings files bind loops bindings

-- the file of bindings is bad, where one is named
abbrev pub IsBadBound : Option Files → Option (List ℕ) → ℕ → List ℕ → ℕ → ℕ → Type 0
IsBadBound files None loops name kind line = ⊥
IsBadBound files (Some bind) loops name kind line = IsBadBindings files bind loops name kind line
