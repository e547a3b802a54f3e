-- A file that is told has one reading: what it holds, or one fault.
use Rattle.std.proofs.Common.{◌≡◌, ◌≤◌, ℕ, List, Some, None, sym, ap, ◌∙◌, subst}
use Rattle.std.specs.Prelude.{Err}
use Rattle.sl_base.specs.Sounds.{Sound}
use Rattle.sl_commands.specs.declared.Entry.{Entry}
use Rattle.sl_commands.specs.TextFaults.{kind_number}
use Rattle.sl_ports.specs.Files.{Files}
use Rattle.text_lines.proofs.ReadingLemmas.{fault_is_one, text_has_no_fault}
use Rattle.text_lines.specs.FirstFaults.{FirstFault}
use Rattle.wav_pcm.specs.declared.WavFault.{WavFault}
use Rattle.wav_pcm.specs.Faults.{fault_number}
use Rattle.wav_pcm.specs.Reading.{Spelling, form_of}
use Rattle.wav_pcm.specs.Files.{IsWav}
use Rattle.wav_pcm.proofs.FormLemmas.{fault_is_no_wav}
use Rattle.wav_pcm.proofs.TextLemmas.{one_wav}
use Rattle.journal_text.specs.Journals.{IsJournal, journal_form}
use Rattle.journal_text.proofs.WrongLemmas.{journals_are_settled}
use Rattle.journal_text.proofs.JournalLemmas.{journal_is_text}
use Rattle.journal_text.proofs.ReaderLemmas.{one_journal}
use Rattle.run_files.specs.OneFile.{HoldsWav, LacksWav, no_wav_file, bad_wav, HoldsJournal, LacksJournal, no_journal_file, bad_journal_text}

-- the bytes under a name are one
pub same_bytes : (files : Files) (name a b : List ℕ) → files name ≡ Some a → files name ≡ Some b →
    a ≡ b
same_bytes files name a b first second =
    let both : Some a ≡ Some b = sym first ∙ second in
    Prim.cc

pub there_or_not : (files : Files) (name a : List ℕ) → files name ≡ Some a → files name ≡ None → ⊥
there_or_not files name a first second =
    let both : Some a ≡ None = sym first ∙ second in
    Prim.cc

-- bytes have one fault as a WAV file
pub same_fault : (bytes : List ℕ) (f g : WavFault) → form_of bytes ≡ Err f → form_of bytes ≡ Err g →
    f ≡ g
same_fault bytes f g first second =
    let both : Err f ≡ Err g = sym first ∙ second in
    Prim.cc

-- IN has one reading
pub one_input :
    (files : Files) (name : List ℕ) (s t : Spelling) (xs ys : List Sound) →
    HoldsWav (Some files) name s xs → HoldsWav (Some files) name t ys
    → (s ≡ t) × (xs ≡ ys)
one_input files name s t xs ys first second =
    let same = same_bytes files name first.bytes second.bytes first.there second.there in
    one_wav second.bytes s t xs ys (subst (λ (bytes : List ℕ). IsWav bytes s xs) same first.wav)
    second.wav

pub input_or_not : (files : Files) (name : List ℕ) (s : Spelling) (xs : List Sound) (kind : ℕ) →
    HoldsWav (Some files) name s xs → LacksWav (Some files) name kind → ⊥
input_or_not files name s xs kind holds (no_wav_file absent kind_is) =
    there_or_not files name holds.bytes holds.there absent
input_or_not files name s xs kind holds (bad_wav bytes there fault is kind_is) =
    let same = same_bytes files name holds.bytes bytes holds.there there in
    fault_is_no_wav bytes fault is s xs (subst (λ (b : List ℕ). IsWav b s xs) same holds.wav)

pub one_input_fault : (files : Files) (name : List ℕ) (kind other : ℕ) →
    LacksWav (Some files) name kind → LacksWav (Some files) name other → kind ≡ other
one_input_fault files name kind other (no_wav_file absent kind_is)
    (no_wav_file absent_too other_is) = kind_is ∙ sym other_is
one_input_fault files name kind other (no_wav_file absent kind_is)
    (bad_wav bytes there fault is other_is) = absurd (there_or_not files name bytes there absent)
one_input_fault files name kind other (bad_wav bytes there fault is kind_is)
    (no_wav_file absent other_is) = absurd (there_or_not files name bytes there absent)
one_input_fault files name kind other (bad_wav bytes there fault is kind_is)
    (bad_wav bytes_too there_too fault_too is_too other_is) =
    let same = same_bytes files name bytes bytes_too there there_too in
    let one = same_fault bytes_too fault fault_too
    (subst (λ (b : List ℕ). form_of b ≡ Err fault) same is) is_too in
    kind_is ∙ ap fault_number one ∙ sym other_is

-- JOURNAL has one reading for a number of loops
pub one_journal_file :
    (files : Files) (name : List ℕ) (loops : ℕ) (es fs : List Entry) → loops ≤ 16 →
    HoldsJournal (Some files) name loops es → HoldsJournal (Some files) name loops fs → es ≡ fs
one_journal_file files name loops es fs few first second =
    let same = same_bytes files name first.bytes second.bytes first.there second.there in
    sym (one_journal loops second.bytes es fs few
    (subst (λ (bytes : List ℕ). IsJournal loops bytes es) same first.text) second.text)

pub journal_or_not :
    (files : Files) (name : List ℕ) (loops : ℕ) (es : List Entry) (kind line : ℕ) → loops ≤ 16 →
    HoldsJournal (Some files) name loops es → LacksJournal (Some files) name loops kind line → ⊥
journal_or_not files name loops es kind line few holds (no_journal_file absent kind_is line_is) =
    there_or_not files name holds.bytes holds.there absent
journal_or_not files name loops es kind line few holds
    (bad_journal_text bytes there text_kind first kind_is) =
    let same = same_bytes files name holds.bytes bytes holds.there there in
    text_has_no_fault (journal_form loops) (journals_are_settled loops few) bytes es line text_kind
    (journal_is_text loops bytes es (subst (λ (b : List ℕ). IsJournal loops b es) same holds.text))
    first

pub one_journal_fault :
    (files : Files) (name : List ℕ) (loops kind line kind_too line_too : ℕ) → loops ≤ 16 →
    LacksJournal (Some files) name loops kind line
    → LacksJournal (Some files) name loops kind_too line_too → (kind ≡ kind_too) × (line ≡ line_too)
one_journal_fault files name loops kind line kind_too line_too few
    (no_journal_file absent kind_is line_is) (no_journal_file absent_too kind_is_too line_is_too) =
    (kind_is ∙ sym kind_is_too, line_is ∙ sym line_is_too)
one_journal_fault files name loops kind line kind_too line_too few
    (no_journal_file absent kind_is line_is)
    (bad_journal_text bytes there text_kind first kind_is_too) =
    absurd (there_or_not files name bytes there absent)
one_journal_fault files name loops kind line kind_too line_too few
    (bad_journal_text bytes there text_kind first kind_is)
    (no_journal_file absent kind_is_too line_is_too) =
    absurd (there_or_not files name bytes there absent)
one_journal_fault files name loops kind line kind_too line_too few
    (bad_journal_text bytes there text_kind first kind_is)
    (bad_journal_text bytes_too there_too text_kind_too first_too kind_is_too) =
    let same = same_bytes files name bytes bytes_too there there_too in
    let one =
    fault_is_one (journal_form loops) (journals_are_settled loops few) bytes_too line line_too
    text_kind text_kind_too
    (subst (λ (b : List ℕ). FirstFault (journal_form loops) b line text_kind) same first)
    first_too in
    (kind_is ∙ ap kind_number one.1 ∙ sym kind_is_too, one.0)
