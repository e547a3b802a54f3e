-- What is told of a run behind its files. Files that are told have one reading: all that they tell,
-- or one first bad file.
use Rattle.std.proofs.Common.{◌≡◌, ◌≤◌, ℕ, zero, suc, List, length, replicate, Option, Some, None, refl, sym, ap, ◌∙◌, subst, arith}
use Rattle.std.specs.Prelude.{IfOk, IsTrue, nat_le, false, Result, Ok, Err}
use Rattle.std.proofs.lemmas.Bool.{and_parts, leb-true}
use Rattle.sl_base.specs.Limits.{max_loops}
use Rattle.sl_base.specs.Sounds.{Sound}
use Rattle.sl_commands.specs.Settings.{LooperSettings, default_strip, is_loop_count, are_settings, are_strips}
use Rattle.sl_ports.specs.declared.keepers.Keeper.{Ghosts as Keeper}
use Rattle.sl_ports.specs.Effects.{OnlyReads}
use Rattle.journal_text.specs.Journals.{AreOfJournal}
use Rattle.session_file.specs.Loading.{is_unread as is_unloaded}
use Rattle.session_file.specs.Outcomes.{SaysOf}
use Rattle.session_file.specs.declared.loading.LoadFault.{LoadFault}
use Rattle.session_file.specs.declared.loading.LoadFault.TheVariants.{File as BadFile, Read as Unread, Memory as NoMemory}
use Rattle.run_files.specs.declared.run.RunFiles.{RunFiles}
use Rattle.run_files.specs.declared.run.FilesFault.{FilesFault}
use Rattle.run_files.specs.declared.run.FilesFault.TheVariants.{File, Read, Memory, Limit}
use Rattle.run_files.specs.Readings.{told_of, is_unread, IsFaultOf, Judges, ReadsRun}
use Rattle.sl_ports.specs.Files.{Files}
use Rattle.wav_pcm.specs.Reading.{Spelling}
use Rattle.session_file.proofs.SessionLemmas.{settings_parts}
use Rattle.run_files.specs.Named.{Named, IsNamed}
use Rattle.run_files.specs.OneFile.{HoldsWav, HoldsJournal, LacksJournal}
use Rattle.run_files.specs.RunLimits.{IsWithin, IsBeyond, too_long, too_few_chunks}
use Rattle.run_files.specs.AllFiles.{Contents, Begins, IsBadBeginning, HoldsRun, IsRunOf, ExceedsLimit, FirstBad, bad_input, bad_beginning, bad_journal}
use Rattle.run_files.proofs.FileLemmas.{one_input, input_or_not, one_input_fault, one_journal_file, journal_or_not, one_journal_fault}
use Rattle.run_files.proofs.PartLemmas.{one_session, loaded_or_bad, one_bad_file}

-- the strips of settings in their ranges
pub strips_in_range : (s : LooperSettings) → IsTrue (are_settings s) → IsTrue (are_strips s.strips)
strips_in_range s valid = (settings_parts s valid).strips

-- what is judged was read
pub judged_reads :
    {P : Type 0} (k : Keeper P) (old new : P) (files : RunFiles) (chunks : ℕ)
    (r : Result RunFiles FilesFault) → OnlyReads k old new false
    → Judges files chunks r → OnlyReads k old new (is_unread r)
judged_reads k old new files chunks (Ok f) reads judged = reads
judged_reads k old new files chunks (Err (File at kind line)) reads judged = absurd judged
judged_reads k old new files chunks (Err Read) reads judged = absurd judged
judged_reads k old new files chunks (Err Memory) reads judged = absurd judged
judged_reads k old new files chunks (Err Limit) reads judged = reads

pub judged_value :
    (files : Option Files) (n : Named) (f : RunFiles) (r : Result RunFiles FilesFault) →
    HoldsRun files n (told_of f) → Judges f n.chunks r → ReadsRun files n r
judged_value files n f (Ok g) holds judged =
    subst (λ (h : RunFiles). IsRunOf files n (told_of h)) (sym judged.0)
    (record { holds = holds; within = judged.1 })
judged_value files n f (Err (File at kind line)) holds judged = absurd judged
judged_value files n f (Err Read) holds judged = absurd judged
judged_value files n f (Err Memory) holds judged = absurd judged
judged_value files n f (Err Limit) holds judged =
    record { contents = told_of f; holds = holds; beyond = judged }

pub judged_entries :
    (files : Option Files) (n : Named) (f : RunFiles) (r : Result RunFiles FilesFault) →
    HoldsRun files n (told_of f) → Judges f n.chunks r
    → IfOk r (λ g. AreOfJournal (length g.settings.strips) g.entries)
judged_entries files n f (Ok g) holds judged =
    subst (λ (h : RunFiles). AreOfJournal (length h.settings.strips) h.entries) (sym judged.0)
    holds.journal.text.whole
judged_entries files n f (Err fault) holds judged = tt

-- a fault of reading is handed on
pub fault_reads :
    {P : Type 0} (k : Keeper P) (old new : P) (fault : LoadFault) (told : FilesFault) →
    OnlyReads k old new (is_unloaded {A = RunFiles} (Err fault))
    → IsFaultOf fault told → OnlyReads k old new (is_unread {A = RunFiles} (Err told))
fault_reads k old new (BadFile at kind line) told reads is =
    subst (λ (t : FilesFault). OnlyReads k old new (is_unread {A = RunFiles} (Err t))) (sym is)
    reads
fault_reads k old new Unread told reads is =
    subst (λ (t : FilesFault). OnlyReads k old new (is_unread {A = RunFiles} (Err t))) (sym is)
    reads
fault_reads k old new NoMemory told reads is =
    subst (λ (t : FilesFault). OnlyReads k old new (is_unread {A = RunFiles} (Err t))) (sym is)
    reads

pub fault_value :
    (files : Option Files) (n : Named) (fault : LoadFault) (told : FilesFault) →
    SaysOf (FirstBad files n) fault → IsFaultOf fault told
    → ReadsRun files n (Err told)
fault_value files n (BadFile at kind line) told says is =
    subst (λ (t : FilesFault). ReadsRun files n (Err t)) (sym is) says
fault_value files n Unread told says is =
    subst (λ (t : FilesFault). ReadsRun files n (Err t)) (sym is) tt
fault_value files n NoMemory told says is =
    subst (λ (t : FilesFault). ReadsRun files n (Err t)) (sym is) tt

-- so many loops are at most 16
pub few_loops : (loops : ℕ) → IsTrue (is_loop_count loops) → loops ≤ 16
few_loops loops is = let top = and_parts (nat_le 1 loops) (nat_le loops max_loops) is in
    leb-true loops max_loops top.1

length-replicate : {A : Type 0} (n : ℕ) (a : A) → length (replicate n a) ≡ n
length-replicate zero a = refl
length-replicate (suc n) a = ap suc (length-replicate n a)

-- a run begins with at most 16 loops
pub begins_with_few :
    (files : Files) (session : Option (List ℕ)) (rate loops : ℕ) (settings : LooperSettings)
    (lists : List (List Sound)) → IsTrue (is_loop_count loops)
    → Begins (Some files) session rate loops settings lists → length settings.strips ≤ 16
begins_with_few files None rate loops settings lists counted begins =
    let count : length settings.strips ≡ loops = ap (λ (s : LooperSettings). length s.strips)
    begins.0 ∙ length-replicate loops default_strip in
    let few = few_loops loops counted in
    omega (arith, count, few)
begins_with_few files (Some session) rate loops settings lists counted begins =
    few_loops (length settings.strips) (settings_parts settings begins.text.valid).loops

-- it begins in one way
pub one_beginning :
    (files : Files) (session : Option (List ℕ)) (rate loops : ℕ) (s t : LooperSettings)
    (lists others : List (List Sound))
    → Begins (Some files) session rate loops s lists →
    Begins (Some files) session rate loops t others → (s ≡ t) × (lists ≡ others)
one_beginning files None rate loops s t lists others first second =
    (first.0 ∙ sym second.0, first.1 ∙ sym second.1)
one_beginning files (Some session) rate loops s t lists others first second =
    one_session files session s t lists others first second

pub begins_or_bad :
    (files : Files) (session : Option (List ℕ)) (rate loops : ℕ) (s : LooperSettings)
    (lists : List (List Sound)) (name : List ℕ) (kind line : ℕ)
    → Begins (Some files) session rate loops s lists →
    IsBadBeginning (Some files) session name kind line → ⊥
begins_or_bad files None rate loops s lists name kind line begins first = absurd first
begins_or_bad files (Some session) rate loops s lists name kind line begins first =
    loaded_or_bad files session s lists name kind line begins first

pub one_bad_beginning :
    (files : Files) (session : Option (List ℕ)) (name other : List ℕ)
    (kind line kind_too line_too : ℕ) → IsBadBeginning (Some files) session name kind line
    → IsBadBeginning (Some files) session other kind_too line_too → (name ≡ other)
    × (kind ≡ kind_too) × (line ≡ line_too)
one_bad_beginning files None name other kind line kind_too line_too first second = absurd first
one_bad_beginning files (Some session) name other kind line kind_too line_too first second =
    one_bad_file files session name other kind line kind_too line_too first second

-- it begins in one way over one IN
one_start :
    (files : Files) (n : Named) (p q : Spelling) (xs ys : List Sound) (s t : LooperSettings)
    (lists others : List (List Sound))
    → HoldsWav (Some files) n.input p xs → HoldsWav (Some files) n.input q ys →
    Begins (Some files) n.session p.rate n.loops s lists
    → Begins (Some files) n.session q.rate n.loops t others → (s ≡ t) × (lists ≡ others)
one_start files n p q xs ys s t lists others input input_too begins begins_too =
    let same = one_input files n.input p q xs ys input input_too in
    one_beginning files n.session q.rate n.loops s t lists others
    (subst (λ (r : Spelling). Begins (Some files) n.session r.rate n.loops s lists) same.0 begins)
    begins_too

-- what good files tell is one
pub one_run : (files : Files) (n : Named) (t u : Contents) → IsNamed n → HoldsRun (Some files) n t →
    HoldsRun (Some files) n u → t ≡ u
one_run files n t u named first second =
    let input = one_input files n.input t.spelling u.spelling t.frames u.frames first.input
    second.input in
    let begins = one_start files n t.spelling u.spelling t.frames u.frames t.settings u.settings
    t.lists u.lists first.input second.input first.begins second.begins in
    let few = begins_with_few files n.session u.spelling.rate n.loops u.settings u.lists named.loops
    second.begins in
    let journal =
    one_journal_file files n.journal (length u.settings.strips) t.entries u.entries few
    (subst (λ (s : LooperSettings). HoldsJournal (Some files) n.journal (length s.strips) t.entries)
    begins.0 first.journal) second.journal in
    λ i. record {
      spelling = input.0 i;
      frames = input.1 i;
      settings = begins.0 i;
      lists =
          begins.1 i;
      entries = journal i;
    }

-- good files have no bad one among them
pub run_or_bad : (files : Files) (n : Named) (t : Contents) (name : List ℕ) (kind line : ℕ) →
    IsNamed n → HoldsRun (Some files) n t → FirstBad (Some files) n name kind line → ⊥
run_or_bad files n t name kind line named holds (bad_input first) =
    input_or_not files n.input t.spelling t.frames kind holds.input first.lacks
run_or_bad files n t name kind line named holds (bad_beginning spelling frames input first) =
    begins_or_bad files n.session t.spelling.rate n.loops t.settings t.lists name kind line
    holds.begins first
run_or_bad files n t name kind line named holds
    (bad_journal spelling frames input settings lists begins first) =
    let same = one_start files n t.spelling spelling t.frames frames t.settings settings t.lists
    lists holds.input input holds.begins begins in
    let few = begins_with_few files n.session spelling.rate n.loops settings lists named.loops
    begins in
    journal_or_not files n.journal (length settings.strips) t.entries kind line few
    (subst (λ (s : LooperSettings). HoldsJournal (Some files) n.journal (length s.strips) t.entries)
    same.0 holds.journal) first.lacks

-- the first bad file is one
pub one_first_bad :
    (files : Files) (n : Named) (name other : List ℕ) (kind line kind_too line_too : ℕ) →
    IsNamed n → FirstBad (Some files) n name kind line
    → FirstBad (Some files) n other kind_too line_too → (name ≡ other) × (kind ≡ kind_too)
    × (line ≡ line_too)
one_first_bad files n name other kind line kind_too line_too named (bad_input first)
    (bad_input second) = (
      first.named ∙ sym second.named,
      one_input_fault files n.input kind kind_too first.lacks
          second.lacks,
      first.no_line ∙ sym second.no_line,
    )
one_first_bad files n name other kind line kind_too line_too named (bad_input first)
    (bad_beginning spelling frames input second) =
    absurd (input_or_not files n.input spelling frames kind input first.lacks)
one_first_bad files n name other kind line kind_too line_too named (bad_input first)
    (bad_journal spelling frames input settings lists begins second) =
    absurd (input_or_not files n.input spelling frames kind input first.lacks)
one_first_bad files n name other kind line kind_too line_too named
    (bad_beginning spelling frames input first) (bad_input second) =
    absurd (input_or_not files n.input spelling frames kind_too input second.lacks)
one_first_bad files n name other kind line kind_too line_too named
    (bad_beginning spelling frames input first)
    (bad_beginning spelling_too frames_too input_too second) =
    one_bad_beginning files n.session name other kind line kind_too line_too first second
one_first_bad files n name other kind line kind_too line_too named
    (bad_beginning spelling frames input first)
    (bad_journal spelling_too frames_too input_too settings lists begins second) =
    absurd (begins_or_bad files n.session spelling_too.rate n.loops settings lists name kind line
    begins first)
one_first_bad files n name other kind line kind_too line_too named
    (bad_journal spelling frames input settings lists begins first) (bad_input second) =
    absurd (input_or_not files n.input spelling frames kind_too input second.lacks)
one_first_bad files n name other kind line kind_too line_too named
    (bad_journal spelling frames input settings lists begins first)
    (bad_beginning spelling_too frames_too input_too second) =
    absurd (begins_or_bad files n.session spelling.rate n.loops settings lists other kind_too
    line_too begins second)
one_first_bad files n name other kind line kind_too line_too named
    (bad_journal spelling frames input settings lists begins first)
    (bad_journal spelling_too frames_too input_too settings_too lists_too begins_too second) =
    let same = one_start files n spelling spelling_too frames frames_too settings settings_too lists
    lists_too input input_too begins begins_too in
    let few = begins_with_few files n.session spelling_too.rate n.loops settings_too lists_too
    named.loops begins_too in
    let one =
    one_journal_fault files n.journal (length settings_too.strips) kind line kind_too line_too few
    (subst (λ (s : LooperSettings). LacksJournal (Some files) n.journal (length s.strips) kind line)
    same.0 first.lacks) second.lacks in
    (first.named ∙ sym second.named, one.0, one.1)

-- what is within the limits exceeds none
within_or_beyond : (chunks count : ℕ) (lists : List (List Sound)) → IsWithin chunks count lists →
    IsBeyond chunks count lists → ⊥
within_or_beyond chunks count lists within (too_long more) = let most = within.frames in
    absurd (omega (arith, most, more))
within_or_beyond chunks count lists within (too_few_chunks more) = let most = within.chunks in
    absurd (omega (arith, most, more))

pub run_or_limit : (files : Files) (n : Named) (t : Contents) → IsNamed n → IsRunOf (Some files) n t
    →
    ExceedsLimit (Some files) n → ⊥
run_or_limit files n t named is beyond =
    let same = one_run files n beyond.contents t named beyond.holds is.holds in
    within_or_beyond n.chunks (length t.frames) t.lists is.within
    (subst (λ (u : Contents). IsBeyond n.chunks (length u.frames) u.lists) same beyond.beyond)
