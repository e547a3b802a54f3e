-- What is told of the files of a run, put together.
use Rattle.std.proofs.Common.{◌≡◌, ℕ, zero, suc, ◌+◌, List, [], ◌∷◌, length, replicate, Option, Some, None, Bool, false, refl, sym, ap, ap₂, ◌&&◌, ◌∙◌, subst}
use Rattle.std.specs.Prelude.{Result, Ok, Err, IsTrue}
use Rattle.std.proofs.lemmas.Bool.{le-leb}
use Rattle.sl_base.specs.Limits.{max_rate}
use Rattle.sl_base.specs.Sounds.{Sound}
use Rattle.sl_commands.specs.declared.Entry.{Entry}
use Rattle.sl_commands.specs.declared.StripSettings.{StripSettings}
use Rattle.sl_commands.specs.Settings.{LooperSettings, default_strip, is_rate}
use Rattle.sl_ports.specs.declared.keepers.Keeper.{Ghosts as Keeper}
use Rattle.sl_ports.specs.Files.{Files, Holds}
use Rattle.sl_ports.specs.Effects.{OnlyReads}
use Rattle.session_file.specs.Loading.{IsPart, AreParts, is_unread}
use Rattle.session_file.specs.Outcomes.{SaysOf}
use Rattle.session_file.specs.declared.loading.LoadFault.{LoadFault}
use Rattle.session_file.specs.declared.loading.LoadFault.TheVariants.{File, Read, Memory}
use Rattle.session_file.specs.Parts.{part_name}
use Rattle.looper_rules.specs.Reached.{AreLists}
use Rattle.session_file.proofs.LoadLemmas.{reads_on}
use Rattle.wav_pcm.proofs.InputLemmas.{form_rate}
use Rattle.wav_pcm.specs.Inputs.{InputOf, spelling_of_input}
use Rattle.run_files.specs.Named.{Named}
use Rattle.run_files.specs.OneFile.{HoldsWav, no_wav_file, bad_wav, HoldsJournal, no_journal_file, bad_journal_text, IsBadInput, IsBadJournal}
use Rattle.run_files.specs.AllFiles.{Begins, IsBadBeginning, HoldsRun, FirstBad, bad_input, bad_beginning, bad_journal}
use Rattle.run_files.specs.Readings.{TellsInput, TellsJournal, ReadsInput, ReadsJournal}

-- what bytes tell reads nothing
pub input_reads :
    {P : Type 0} (k : Keeper P) (old new : P) (bytes name : List ℕ) (r : Result InputOf LoadFault)
    → OnlyReads k old new false → TellsInput bytes name r → OnlyReads k old new (is_unread r)
input_reads k old new bytes name (Ok i) reads told = reads
input_reads k old new bytes name (Err (File at kind line)) reads told = reads
input_reads k old new bytes name (Err Read) reads told = absurd told
input_reads k old new bytes name (Err Memory) reads told = reads

pub journal_reads :
    {P : Type 0} (k : Keeper P) (old new : P) (bytes name : List ℕ) (loops : ℕ)
    (r : Result (List Entry) LoadFault)
    → OnlyReads k old new false → TellsJournal bytes name loops r →
    OnlyReads k old new (is_unread r)
journal_reads k old new bytes name loops (Ok es) reads told = reads
journal_reads k old new bytes name loops (Err (File at kind line)) reads told = reads
journal_reads k old new bytes name loops (Err Read) reads told = absurd told
journal_reads k old new bytes name loops (Err Memory) reads told = reads

-- IN by its file
pub input_value :
    (files : Option Files) (name bytes : List ℕ) (r : Result InputOf LoadFault) →
    Holds files name (Some bytes)
    → TellsInput bytes name r → ReadsInput files name r
input_value files name bytes (Ok i) there told = record { bytes = bytes; there = there; wav = told }
input_value files name bytes (Err (File at kind line)) there told =
    record {
      named = told.0;
      lacks = bad_wav bytes there told.2.0 told.2.1 told.2.2;
      no_line =
          told.1;
    }
input_value files name bytes (Err Read) there told = absurd told
input_value files name bytes (Err Memory) there told = tt

pub no_input :
    (files : Option Files) (name : List ℕ) (fault : LoadFault)
    → SaysOf (λ at kind line. (at ≡ name) × (kind ≡ 0) × (line ≡ 0) × Holds files name None) fault
    → SaysOf (IsBadInput files name) fault
no_input files name (File at kind line) told =
    record { named = told.0; lacks = no_wav_file told.3 told.1; no_line = told.2 }
no_input files name Read told = tt
no_input files name Memory told = tt

-- JOURNAL by its file
pub journal_value :
    (files : Option Files) (name bytes : List ℕ) (loops : ℕ) (r : Result (List Entry) LoadFault) →
    Holds files name (Some bytes)
    → TellsJournal bytes name loops r → ReadsJournal files name loops r
journal_value files name bytes loops (Ok es) there told =
    record { bytes = bytes; there = there; text = told }
journal_value files name bytes loops (Err (File at kind line)) there told =
    record { named = told.0; lacks = bad_journal_text bytes there told.1.0 told.1.1 told.1.2 }
journal_value files name bytes loops (Err Read) there told = absurd told
journal_value files name bytes loops (Err Memory) there told = tt

pub no_journal :
    (files : Option Files) (name : List ℕ) (loops : ℕ) (fault : LoadFault)
    → SaysOf (λ at kind line. (at ≡ name) × (kind ≡ 0) × (line ≡ 0) × Holds files name None) fault
    → SaysOf (IsBadJournal files name loops) fault
no_journal files name loops (File at kind line) told =
    record { named = told.0; lacks = no_journal_file told.3 told.1 told.2 }
no_journal files name loops Read told = tt
no_journal files name loops Memory told = tt

-- readings one after another, of which the last may have failed
pub reads_twice :
    {P : Type 0} (k : Keeper P) (a b c : P) (failed : Bool) → OnlyReads k a b false →
    OnlyReads k b c failed → OnlyReads k a c failed
reads_twice k a b c failed first second = reads_on k a b c failed first second

pub reads_thrice :
    {P : Type 0} (k : Keeper P) (a b c d : P) (failed : Bool) → OnlyReads k a b false →
    OnlyReads k b c false → OnlyReads k c d failed → OnlyReads k a d failed
reads_thrice k a b c d failed first second third =
    reads_on k a c d failed (reads_on k a b c false first second) third

-- the rate of IN
pub input_rate : (files : Option Files) (name : List ℕ) (i : InputOf) →
    HoldsWav files name (spelling_of_input i) i.frames → IsTrue (is_rate i.rate)
input_rate files name i holds =
    let rated = form_rate holds.bytes (spelling_of_input i) i.frames holds.wav in
    ap₂ (λ (a b : Bool). a && b) (le-leb 1 i.rate rated.0) (le-leb i.rate max_rate rated.1)

-- IN is the first bad file
pub input_is_bad :
    (files : Option Files) (n : Named) (fault : LoadFault)
    → SaysOf (IsBadInput files n.input) fault → SaysOf (FirstBad files n) fault
input_is_bad files n (File at kind line) told = bad_input told
input_is_bad files n Read told = tt
input_is_bad files n Memory told = tt

-- one of the session is
pub beginning_is_bad :
    (files mid : Option Files) (n : Named) (i : InputOf) (fault : LoadFault) → mid ≡ files →
    HoldsWav files n.input (spelling_of_input i) i.frames
    → SaysOf (IsBadBeginning mid n.session) fault → SaysOf (FirstBad files n) fault
beginning_is_bad files mid n i (File at kind line) same input told =
    bad_beginning (spelling_of_input i) i.frames input
    (subst (λ (f : Option Files). IsBadBeginning f n.session at kind line) same told)
beginning_is_bad files mid n i Read same input told = tt
beginning_is_bad files mid n i Memory same input told = tt

-- JOURNAL is
pub journal_is_bad :
    (files mid last : Option Files) (n : Named) (i : InputOf) (settings : LooperSettings)
    (lists : List (List Sound)) (rate loops : ℕ) (fault : LoadFault)
    → mid ≡ files → last ≡ mid → rate ≡ i.rate → loops ≡ length settings.strips →
    HoldsWav files n.input (spelling_of_input i) i.frames
    → Begins mid n.session rate n.loops settings lists →
    SaysOf (IsBadJournal last n.journal loops) fault → SaysOf (FirstBad files n) fault
journal_is_bad files mid last n i settings lists rate loops (File at kind line) same still rated
    counted input begins told =
    bad_journal (spelling_of_input i) i.frames input settings lists
    (subst (λ (y : Option Files × ℕ). Begins y.0 n.session y.1 n.loops settings lists)
    (λ j. (same j, rated j)) begins)
    (subst (λ (y : Option Files × ℕ). IsBadJournal y.0 n.journal y.1 at kind line)
    (λ j. ((still ∙ same) j, counted j)) told)
journal_is_bad files mid last n i settings lists rate loops Read same still rated counted input
    begins told = tt
journal_is_bad files mid last n i settings lists rate loops Memory same still rated counted input
    begins told = tt

-- all files are good
pub run_is_held :
    (files mid last : Option Files) (n : Named) (i : InputOf) (settings : LooperSettings)
    (lists : List (List Sound)) (entries : List Entry) (loops : ℕ)
    → mid ≡ files → last ≡ mid → loops ≡ length settings.strips →
    HoldsWav files n.input (spelling_of_input i) i.frames
    → Begins mid n.session i.rate n.loops settings lists → HoldsJournal last n.journal loops entries
    → HoldsRun files n
    (record {
      spelling = spelling_of_input i;
      frames = i.frames;
      settings = settings;
      lists =
          lists;
      entries = entries;
    })
run_is_held files mid last n i settings lists entries loops same still counted input begins
    journal =
    record {
      input = input;
      begins = subst (λ (f : Option Files). Begins f n.session i.rate n.loops settings lists) same
          begins;
      journal = subst (λ (y : Option Files × ℕ). HoldsJournal y.0 n.journal y.1 entries)
          (λ j. ((still ∙ same) j, counted j)) journal;
    }

-- new loops have no lists
new_lists : (loops : ℕ) → AreLists (replicate loops default_strip) []
new_lists zero = tt
new_lists (suc n) = (refl, new_lists n)

-- a list is as long as its loop's strip says
part_length : (files : Option Files) (name : List ℕ) (len : ℕ) (list : List Sound) →
    IsPart files name len list → len ≡ length list
part_length files name zero list part = ap length (sym part)
part_length files name (suc n) list part = sym part.part.spelled.count

parts_are_lists : (files : Option Files) (session : List ℕ) (index : ℕ) (ss : List StripSettings)
    (lists : List (List Sound)) → AreParts files session index ss lists → AreLists ss lists
parts_are_lists files session index [] [] are = tt
parts_are_lists files session index [] (l ∷ ls) are = absurd are
parts_are_lists files session index (s ∷ ss) [] are = absurd are
parts_are_lists files session index (s ∷ ss) (l ∷ ls) are = (
  part_length files (part_name session index) s.length l are.0,
  parts_are_lists files session (index + 1) ss ls are.1,
)

-- the lists that a run begins with are as long as its settings say
pub begins_with_lists :
    (files : Option Files) (session : Option (List ℕ)) (rate loops : ℕ) (settings : LooperSettings)
    (lists : List (List Sound))
    → Begins files session rate loops settings lists → AreLists settings.strips lists
begins_with_lists files None rate loops settings lists begins =
    subst (λ (y : LooperSettings × List (List Sound)). AreLists y.0.strips y.1)
    (λ i. (sym begins.0 i, sym begins.1 i)) (new_lists loops)
begins_with_lists files (Some session) rate loops settings lists begins =
    parts_are_lists files session 0 settings.strips lists begins.parts
