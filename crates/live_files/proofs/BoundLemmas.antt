-- What is told of a file of bindings. One that is told has one reading: bindings, or one fault.
use Rattle.std.proofs.Common.{◌≡◌, ◌≤◌, ℕ, List, Option, Some, None, false, sym, ap, ◌∙◌, subst}
use Rattle.std.specs.Prelude.{Result, Ok, Err}
use Rattle.sl_base.specs.Limits.{max_loops}
use Rattle.sl_commands.specs.TextFaults.{kind_number}
use Rattle.sl_ports.specs.declared.keepers.Keeper.{Ghosts as Keeper}
use Rattle.sl_ports.specs.Files.{Files, Holds}
use Rattle.sl_ports.specs.Effects.{OnlyReads}
use Rattle.text_lines.specs.FirstFaults.{FirstFault}
use Rattle.text_lines.proofs.ReadingLemmas.{fault_is_one, text_has_no_fault}
use Rattle.session_file.specs.Loading.{is_unread}
use Rattle.session_file.specs.Outcomes.{SaysOf}
use Rattle.session_file.specs.declared.loading.LoadFault.{LoadFault}
use Rattle.session_file.specs.declared.loading.LoadFault.TheVariants.{File, Read, Memory}
use Rattle.midi_bindings.specs.declared.binding.Binding.{Binding}
use Rattle.midi_bindings.specs.Texts.{IsBindings, bindings_form}
use Rattle.midi_bindings.proofs.WrongLemmas.{bindings_are_settled}
use Rattle.midi_bindings.proofs.TextLemmas.{bindings_are_text}
use Rattle.midi_bindings.proofs.ReaderLemmas.{one_reading}
use Rattle.run_files.proofs.FileLemmas.{same_bytes, there_or_not}
use Rattle.live_files.specs.BoundFile.{HoldsBindings, LacksBindings, no_bindings_file, bad_bindings_text, IsBadBindings, Binds, IsBadBound}
use Rattle.live_files.specs.LiveAnswers.{TellsBindings, ReadsBindings}

-- what bytes tell reads nothing
pub bindings_reads :
    {P : Type 0} (k : Keeper P) (old new : P) (bytes name : List ℕ) (loops : ℕ)
    (r : Result (List Binding) LoadFault)
    → OnlyReads k old new false → TellsBindings bytes name loops r →
    OnlyReads k old new (is_unread r)
bindings_reads k old new bytes name loops (Ok bs) reads told = reads
bindings_reads k old new bytes name loops (Err (File at kind line)) reads told = reads
bindings_reads k old new bytes name loops (Err Read) reads told = absurd told
bindings_reads k old new bytes name loops (Err Memory) reads told = reads

-- the bindings by their file
pub bindings_value :
    (files : Option Files) (name bytes : List ℕ) (loops : ℕ) (r : Result (List Binding) LoadFault) →
    Holds files name (Some bytes)
    → TellsBindings bytes name loops r → ReadsBindings files name loops r
bindings_value files name bytes loops (Ok bs) there told =
    record { bytes = bytes; there = there; text = told }
bindings_value files name bytes loops (Err (File at kind line)) there told =
    record { named = told.0; lacks = bad_bindings_text bytes there told.1.0 told.1.1 told.1.2 }
bindings_value files name bytes loops (Err Read) there told = absurd told
bindings_value files name bytes loops (Err Memory) there told = tt

pub no_bindings :
    (files : Option Files) (name : List ℕ) (loops : ℕ) (fault : LoadFault)
    → SaysOf (λ at kind line. (at ≡ name) × (kind ≡ 0) × (line ≡ 0) × Holds files name None) fault
    → SaysOf (IsBadBindings files name loops) fault
no_bindings files name loops (File at kind line) told =
    record { named = told.0; lacks = no_bindings_file told.3 told.1 told.2 }
no_bindings files name loops Read told = tt
no_bindings files name loops Memory told = tt

-- a file of bindings has one reading for a number of loops
one_file :
    (files : Files) (name : List ℕ) (loops : ℕ) (bs cs : List Binding) → loops ≤ max_loops →
    HoldsBindings (Some files) name loops bs → HoldsBindings (Some files) name loops cs → bs ≡ cs
one_file files name loops bs cs few first second =
    let same = same_bytes files name first.bytes second.bytes first.there second.there in
    sym (one_reading loops second.bytes bs cs few
    (subst (λ (bytes : List ℕ). IsBindings loops bytes bs) same first.text) second.text)

file_or_not :
    (files : Files) (name : List ℕ) (loops : ℕ) (bs : List Binding) (kind line : ℕ) →
    loops ≤ max_loops →
    HoldsBindings (Some files) name loops bs → LacksBindings (Some files) name loops kind line → ⊥
file_or_not files name loops bs kind line few holds (no_bindings_file absent kind_is line_is) =
    there_or_not files name holds.bytes holds.there absent
file_or_not files name loops bs kind line few holds
    (bad_bindings_text bytes there text_kind first kind_is) =
    let same = same_bytes files name holds.bytes bytes holds.there there in
    text_has_no_fault (bindings_form loops) (bindings_are_settled loops few) bytes bs line text_kind
    (bindings_are_text loops bytes bs (subst (λ (b : List ℕ). IsBindings loops b bs) same
    holds.text)) first

one_file_fault :
    (files : Files) (name : List ℕ) (loops kind line kind_too line_too : ℕ) → loops ≤ max_loops →
    LacksBindings (Some files) name loops kind line
    → LacksBindings (Some files) name loops kind_too line_too → (kind ≡ kind_too)
    × (line ≡ line_too)
one_file_fault files name loops kind line kind_too line_too few
    (no_bindings_file absent kind_is line_is)
    (no_bindings_file absent_too kind_is_too line_is_too) =
    (kind_is ∙ sym kind_is_too, line_is ∙ sym line_is_too)
one_file_fault files name loops kind line kind_too line_too few
    (no_bindings_file absent kind_is line_is)
    (bad_bindings_text bytes there text_kind first kind_is_too) =
    absurd (there_or_not files name bytes there absent)
one_file_fault files name loops kind line kind_too line_too few
    (bad_bindings_text bytes there text_kind first kind_is)
    (no_bindings_file absent kind_is_too line_is_too) =
    absurd (there_or_not files name bytes there absent)
one_file_fault files name loops kind line kind_too line_too few
    (bad_bindings_text bytes there text_kind first kind_is)
    (bad_bindings_text bytes_too there_too text_kind_too first_too kind_is_too) =
    let same = same_bytes files name bytes bytes_too there there_too in
    let one =
    fault_is_one (bindings_form loops) (bindings_are_settled loops few) bytes_too line line_too
    text_kind text_kind_too
    (subst (λ (b : List ℕ). FirstFault (bindings_form loops) b line text_kind) same first)
    first_too in
    (kind_is ∙ ap kind_number one.1 ∙ sym kind_is_too, one.0)

-- so has what is bound, whether a file is named or not
pub one_bound :
    (files : Files) (bind : Option (List ℕ)) (loops : ℕ) (bs cs : List Binding) →
    loops ≤ max_loops → Binds (Some files) bind loops bs → Binds (Some files) bind loops cs → bs ≡
    cs
one_bound files None loops bs cs few first second = first ∙ sym second
one_bound files (Some bind) loops bs cs few first second =
    one_file files bind loops bs cs few first second

pub bound_or_bad :
    (files : Files) (bind : Option (List ℕ)) (loops : ℕ) (bs : List Binding) (name : List ℕ)
    (kind line : ℕ) → loops ≤ max_loops → Binds (Some files) bind loops bs →
    IsBadBound (Some files) bind loops name kind line → ⊥
bound_or_bad files None loops bs name kind line few binds bad = absurd bad
bound_or_bad files (Some bind) loops bs name kind line few binds bad =
    file_or_not files bind loops bs kind line few binds bad.lacks

pub one_bad_bound :
    (files : Files) (bind : Option (List ℕ)) (loops : ℕ) (name other : List ℕ)
    (kind line kind_too line_too : ℕ) → loops ≤ max_loops →
    IsBadBound (Some files) bind loops name kind line →
    IsBadBound (Some files) bind loops other kind_too line_too →
    (name ≡ other) × (kind ≡ kind_too) × (line ≡ line_too)
one_bad_bound files None loops name other kind line kind_too line_too few first second =
    absurd first
one_bad_bound files (Some bind) loops name other kind line kind_too line_too few first second =
    let one = one_file_fault files bind loops kind line kind_too line_too few first.lacks
    second.lacks in
    (first.named ∙ sym second.named, one.0, one.1)
