-- What is told of a session's files, put together.
use Rattle.std.proofs.Common.{◌≡◌, ◌≢◌, ◌≤◌, ◌<◌, ℕ, zero, suc, ◌+◌, List, [], ◌∷◌, ◌++◌, length, take, drop, get_or, Option, Some, None, Bool, false, refl, sym, ap, ◌∙◌, subst, arith}
use Rattle.std.specs.Prelude.{Result, Ok, Err}
use Rattle.std.proofs.lemmas.List.{length-take-le, take_more, take-append-drop}
use Rattle.std.proofs.Math.Seq.{drop-cons}
use Rattle.sl_base.specs.Sounds.{Sound}
use Rattle.sl_base.specs.Counting.{Counts}
use Rattle.sl_commands.specs.declared.StripSettings.{StripSettings}
use Rattle.sl_commands.specs.declared.TextFault.{TextFault}
use Rattle.sl_commands.specs.Settings.{LooperSettings, default_strip}
use Rattle.sl_commands.specs.TextFaults.{kind_number}
use Rattle.sl_ports.specs.declared.keepers.Keeper.{Ghosts as Keeper}
use Rattle.sl_ports.specs.Files.{Files, Holds}
use Rattle.sl_ports.specs.Effects.{OnlyReads}
use Rattle.text_lines.specs.FirstFaults.{FirstFault}
use Rattle.wav_pcm.specs.declared.Wav.{Wav}
use Rattle.wav_pcm.specs.declared.WavFault.{WavFault}
use Rattle.wav_pcm.specs.declared.WavFault.TheVariants.{NotRiff, NoFormat, Unsupported, NoData, Truncated, TornFrame, Memory as NoMemory}
use Rattle.wav_pcm.specs.Files.{IsWav}
use Rattle.wav_pcm.specs.Faults.{IsFirstFault}
use Rattle.wav_pcm.specs.Forms.{wav_spelling}
use Rattle.session_file.specs.Parts.{part_name}
use Rattle.session_file.specs.Sessions.{session_form}
use Rattle.session_file.specs.Loading.{IsPartSpelled, no_wav, other_wav, LacksPart, missing, bad, IsPart, AreParts, FirstBadPart, FirstBadFile, no_text, bad_text, bad_part, is_unread}
use Rattle.session_file.specs.Outcomes.{SaysOf, IsFaultOf, ListOf, TellsPart, ReadsPart, ReadsLoop, HoldsText, ReadsText, TellsText}
use Rattle.session_file.specs.declared.loading.LoadFault.{LoadFault}
use Rattle.session_file.specs.declared.loading.LoadFault.TheVariants.{File, Read, Memory}

-- the fault of a text
pub text_fault :
    (bytes session at : List ℕ) (fault : TextFault) (kind : ℕ) → at ≡ session →
    FirstFault session_form bytes fault.line fault.kind
    → kind ≡ kind_number fault.kind → TellsText bytes session (Err (File at kind fault.line))
text_fault bytes session at fault kind at_is first kind_is = (at_is, (fault.kind, first, kind_is))

-- what bytes tell reads nothing
pub text_reads :
    {P : Type 0} (k : Keeper P) (old new : P) (bytes session : List ℕ)
    (r : Result LooperSettings LoadFault)
    → OnlyReads k old new false → TellsText bytes session r → OnlyReads k old new (is_unread r)
text_reads k old new bytes session (Ok s) reads told = reads
text_reads k old new bytes session (Err (File at kind line)) reads told = reads
text_reads k old new bytes session (Err Read) reads told = absurd told
text_reads k old new bytes session (Err Memory) reads told = reads

pub part_reads :
    {P : Type 0} (k : Keeper P) (old new : P) (bytes name : List ℕ) (len : ℕ)
    (r : Result (List Sound) LoadFault)
    → OnlyReads k old new false → TellsPart bytes name len r → OnlyReads k old new (is_unread r)
part_reads k old new bytes name len (Ok s) reads told = reads
part_reads k old new bytes name len (Err (File at kind line)) reads told = reads
part_reads k old new bytes name len (Err Read) reads told = absurd told
part_reads k old new bytes name len (Err Memory) reads told = reads

-- the text of a session by its file
pub text_value :
    (files : Option Files) (session bytes : List ℕ) (r : Result LooperSettings LoadFault) →
    Holds files session (Some bytes)
    → TellsText bytes session r → ReadsText files session r
text_value files session bytes (Ok s) there told =
    record { bytes = bytes; there = there; text = told }
text_value files session bytes (Err (File at kind line)) there told =
    bad_text told.0 bytes there told.1.0 told.1.1 told.1.2
text_value files session bytes (Err Read) there told = absurd told
text_value files session bytes (Err Memory) there told = tt

pub no_session :
    (files : Option Files) (session : List ℕ) (fault : LoadFault)
    → SaysOf (λ at kind line. (at ≡ session) × (kind ≡ 0) × (line ≡ 0) × Holds files session None)
    fault → SaysOf (FirstBadFile files session) fault
no_session files session (File at kind line) told = no_text told.0 told.3 told.1 told.2
no_session files session Read told = tt
no_session files session Memory told = tt

-- the list of a WAV file
pub part_told :
    (bytes name : List ℕ) (len : ℕ) (wav : Wav) (r : Result (List Sound) LoadFault) →
    IsWav bytes (wav_spelling wav) wav.frames
    → ListOf name len wav r → TellsPart bytes name len r
part_told bytes name len wav (Ok list) is told =
    record {
      spelling = wav_spelling wav;
      wav = subst (λ (l : List Sound). IsWav bytes (wav_spelling wav) l) (sym told.0) is;
      spelled = subst (λ (l : List Sound). IsPartSpelled (wav_spelling wav) l len) (sym told.0)
          told.1;
    }
part_told bytes name len wav (Err fault) is told =
    subst (λ (f : LoadFault). TellsPart bytes name len (Err f)) (sym told.0)
    (refl, refl, other_wav (wav_spelling wav) wav.frames is told.1 refl)

pub wav_fault_told :
    (bytes name : List ℕ) (len : ℕ) (fault : WavFault) (told : LoadFault) →
    IsFirstFault bytes fault → IsFaultOf name fault told
    → TellsPart bytes name len (Err told)
wav_fault_told bytes name len NoMemory told first is =
    subst (λ (f : LoadFault). TellsPart bytes name len (Err f)) (sym is) tt
wav_fault_told bytes name len NotRiff told first is =
    subst (λ (f : LoadFault). TellsPart bytes name len (Err f)) (sym is)
    (refl, refl, no_wav NotRiff first refl)
wav_fault_told bytes name len NoFormat told first is =
    subst (λ (f : LoadFault). TellsPart bytes name len (Err f)) (sym is)
    (refl, refl, no_wav NoFormat first refl)
wav_fault_told bytes name len Unsupported told first is =
    subst (λ (f : LoadFault). TellsPart bytes name len (Err f)) (sym is)
    (refl, refl, no_wav Unsupported first refl)
wav_fault_told bytes name len NoData told first is =
    subst (λ (f : LoadFault). TellsPart bytes name len (Err f)) (sym is)
    (refl, refl, no_wav NoData first refl)
wav_fault_told bytes name len Truncated told first is =
    subst (λ (f : LoadFault). TellsPart bytes name len (Err f)) (sym is)
    (refl, refl, no_wav Truncated first refl)
wav_fault_told bytes name len TornFrame told first is =
    subst (λ (f : LoadFault). TellsPart bytes name len (Err f)) (sym is)
    (refl, refl, no_wav TornFrame first refl)

-- the list of a file
pub part_value :
    (files : Option Files) (name bytes : List ℕ) (len : ℕ) (r : Result (List Sound) LoadFault) →
    Holds files name (Some bytes)
    → TellsPart bytes name len r → ReadsPart files name len r
part_value files name bytes len (Ok list) there told =
    record { bytes = bytes; there = there; part = told }
part_value files name bytes len (Err (File at kind line)) there told =
    (told.0, told.1, bad bytes there told.2)
part_value files name bytes len (Err Read) there told = absurd told
part_value files name bytes len (Err Memory) there told = tt

pub no_part :
    (files : Option Files) (name : List ℕ) (len : ℕ) (fault : LoadFault)
    → SaysOf (λ at kind line. (at ≡ name) × (kind ≡ 0) × (line ≡ 0) × Holds files name None) fault
    → SaysOf (λ at kind line. (at ≡ name) × (line ≡ 0) × LacksPart files name len kind) fault
no_part files name len (File at kind line) told = (told.0, told.2, missing told.3 told.1)
no_part files name len Read told = tt
no_part files name len Memory told = tt

-- the list of a loop that isn't empty
pub loop_value :
    (files : Option Files) (name : List ℕ) (len : ℕ) (r : Result (List Sound) LoadFault) → len ≢ 0 →
    ReadsPart files name len r
    → ReadsLoop files name len r
loop_value files name zero r some told = absurd (some refl)
loop_value files name (suc n) (Ok list) some told = told
loop_value files name (suc n) (Err (File at kind line)) some told =
    (told.0, told.1, omega arith, told.2)
loop_value files name (suc n) (Err Read) some told = tt
loop_value files name (suc n) (Err Memory) some told = tt

-- one loop more
pub parts-more :
    (files : Option Files) (session : List ℕ) (index : ℕ) (strips : List StripSettings)
    (lists : List (List Sound)) (strip : StripSettings) (list : List Sound)
    → AreParts files session index strips lists →
    IsPart files (part_name session (index + length strips)) strip.length list
    → AreParts files session index (strips ++ strip ∷ []) (lists ++ list ∷ [])
parts-more files session index [] [] strip list are part =
    (subst (λ (n : ℕ). IsPart files (part_name session n) strip.length list) (omega arith) part, tt)
parts-more files session index [] (l ∷ ls) strip list are part = absurd are
parts-more files session index (s ∷ ss) [] strip list are part = absurd are
parts-more files session index (s ∷ ss) (l ∷ ls) strip list are part = (
  are.0,
  parts-more files session (index + 1) ss ls strip list are.1
      (subst (λ (n : ℕ). IsPart files (part_name session n) strip.length list) (omega arith) part),
)

-- the next index
suc_is : (n : ℕ) → suc n ≡ n + 1
suc_is n = omega arith

-- readings one after another, of which the last may have failed
pub reads_on :
    {P : Type 0} (k : Keeper P) (a b c : P) (failed : Bool) → OnlyReads k a b false →
    OnlyReads k b c failed → OnlyReads k a c failed
reads_on k a b c failed first second =
    let same = first.counts.stayed refl in
    record {
      counts = subst (λ (n : ℕ). Counts n (k.read_faults c) failed) same second.counts;
      writes = second.writes ∙ first.writes;
      files = second.files ∙ first.files;
    }

-- the list of one loop more
pub loads_more :
    (files mid : Option Files) (session : List ℕ) (strips : List StripSettings) (index : ℕ)
    (lists new : List (List Sound)) (list : List Sound)
    → mid ≡ files → index < length strips → AreParts files session 0 (take index strips) lists
    → IsPart mid (part_name session index) (get_or strips index default_strip).length list →
    new ≡ lists ++ list ∷ []
    → AreParts files session 0 (take (index + 1) strips) new
loads_more files mid session strips index lists new list same there are part new_is =
    let strip : StripSettings = get_or strips index default_strip in
    let counted : length (take index strips) ≡ index =
    length-take-le index strips (omega (arith, there)) in
    let at : index ≡ 0 + length (take index strips) = omega (arith, counted) in
    let here = subst (λ (y : Option Files × ℕ).
    IsPart y.0 (part_name session y.1) strip.length list) (λ i. (same i, at i)) part in
    let more : take (index + 1) strips ≡ take index strips ++ strip ∷ [] =
    take_more strips index default_strip there in
    subst (λ (y : List StripSettings × List (List Sound)). AreParts files session 0 y.0 y.1)
    (λ i. (sym more i, sym new_is i))
    (parts-more files session 0 (take index strips) lists strip list are here)

-- the first loop whose file is bad
pub bad_loop :
    (files mid : Option Files) (session : List ℕ) (strips : List StripSettings) (index : ℕ)
    (lists : List (List Sound)) (fault : LoadFault)
    → mid ≡ files → index < length strips → AreParts files session 0 (take index strips) lists
    → SaysOf (λ at kind line.
    (at ≡ part_name session index) × (line ≡ 0) × (1 ≤ (get_or strips index default_strip).length)
    × LacksPart mid (part_name session index) (get_or strips index default_strip).length kind) fault
    → SaysOf (λ at kind line. (line ≡ 0) × FirstBadPart files session strips at kind) fault
bad_loop files mid session strips index lists (File at kind line) same there are told =
    let strip : StripSettings = get_or strips index default_strip in
    let counted : length (take index strips) ≡ index =
    length-take-le index strips (omega (arith, there)) in (
      told.1,
      record {
        good = take index strips;
        strip = strip;
        rest = drop (index + 1) strips;
        parted =
            sym (take-append-drop index strips)
            ∙ ap (λ (l : List StripSettings). take index strips ++ l)
            (drop-cons strips index default_strip there)
            ∙ ap (λ (n : ℕ). take index strips ++ strip ∷ drop n strips) (suc_is index);
        lists = lists;
        parts = are;
        some = told.2;
        name_is = told.0 ∙ ap (part_name session) (sym counted);
        lacks = subst (λ (y : Option Files × List ℕ). LacksPart y.0 y.1 strip.length kind)
            (λ i. (same i, sym told.0 i)) told.3;
      },
    )
bad_loop files mid session strips index lists Read same there are told = tt
bad_loop files mid session strips index lists Memory same there are told = tt

-- the first bad file of a session whose text is there
pub bad_session :
    (files mid : Option Files) (session : List ℕ) (settings : LooperSettings) (fault : LoadFault) →
    mid ≡ files
    → HoldsText files session settings
    → SaysOf (λ at kind line. (line ≡ 0) × FirstBadPart mid session settings.strips at kind) fault
    → SaysOf (FirstBadFile files session) fault
bad_session files mid session settings (File at kind line) same text told =
    bad_part text.bytes text.there settings text.text
    (subst (λ (f : Option Files). FirstBadPart f session settings.strips at kind) same told.1)
    told.0
bad_session files mid session settings Read same text told = tt
bad_session files mid session settings Memory same text told = tt
