-- What is told of the files of a live session, put together. Files that are told have one reading:
-- all that they tell, or one first bad file.
use Rattle.std.proofs.Common.{◌≡◌, ◌<◌, ℕ, List, length, Option, Some, None, false, sym, subst, arith}
use Rattle.std.specs.Prelude.{Result, Ok, Err, IfOk}
use Rattle.sl_base.specs.Sounds.{Sound}
use Rattle.sl_commands.specs.Settings.{LooperSettings}
use Rattle.sl_ports.specs.declared.keepers.Keeper.{Ghosts as Keeper}
use Rattle.sl_ports.specs.Files.{Files}
use Rattle.sl_ports.specs.Effects.{OnlyReads}
use Rattle.session_file.specs.Loading.{is_unread as is_unloaded}
use Rattle.session_file.specs.Outcomes.{SaysOf}
use Rattle.session_file.specs.declared.loading.LoadFault.{LoadFault}
use Rattle.session_file.specs.declared.loading.LoadFault.TheVariants.{File as BadFile, Read as Unread, Memory as NoMemory}
use Rattle.midi_bindings.specs.declared.binding.Binding.{Binding}
use Rattle.midi_bindings.specs.Texts.{AreBindings}
use Rattle.run_files.specs.AllFiles.{Begins, IsBadBeginning}
use Rattle.run_files.specs.RunLimits.{chunks_for}
use Rattle.run_files.specs.Readings.{is_unread, IsFaultOf}
use Rattle.run_files.specs.declared.run.FilesFault.{FilesFault}
use Rattle.run_files.specs.declared.run.FilesFault.TheVariants.{File, Read, Memory, Limit}
use Rattle.run_files.proofs.RunLemmas.{begins_with_few, one_beginning, begins_or_bad, one_bad_beginning}
use Rattle.live_files.specs.LiveNamed.{LiveNamed, IsLiveNamed}
use Rattle.live_files.specs.BoundFile.{Binds, IsBadBound}
use Rattle.live_files.specs.LiveReading.{LiveContents, HoldsLive, IsLiveOf, ExceedsLive, FirstBadLive, bad_session, bad_bindings}
use Rattle.live_files.specs.LiveAnswers.{told_live, JudgesLive, ReadsLive}
use Rattle.live_files.specs.declared.live.LiveFiles.{LiveFiles}
use Rattle.live_files.proofs.BoundLemmas.{one_bound, bound_or_bad, one_bad_bound}

-- a file of the session is the first bad one
pub session_is_bad :
    (files : Option Files) (n : LiveNamed) (fault : LoadFault)
    → SaysOf (IsBadBeginning files n.session) fault → SaysOf (FirstBadLive files n) fault
session_is_bad files n (BadFile at kind line) told = bad_session told
session_is_bad files n Unread told = tt
session_is_bad files n NoMemory told = tt

-- that of the bindings is
pub bindings_are_bad :
    (files mid : Option Files) (n : LiveNamed) (settings : LooperSettings)
    (lists : List (List Sound)) (loops : ℕ) (fault : LoadFault)
    → mid ≡ files → loops ≡ length settings.strips →
    Begins files n.session n.rate n.loops settings lists →
    SaysOf (IsBadBound mid n.bind loops) fault → SaysOf (FirstBadLive files n) fault
bindings_are_bad files mid n settings lists loops (BadFile at kind line) same counted begins told =
    bad_bindings settings lists begins
    (subst (λ (y : Option Files × ℕ). IsBadBound y.0 n.bind y.1 at kind line)
    (λ j. (same j, counted j)) told)
bindings_are_bad files mid n settings lists loops Unread same counted begins told = tt
bindings_are_bad files mid n settings lists loops NoMemory same counted begins told = tt

-- all files are good
pub live_is_held :
    (files mid : Option Files) (n : LiveNamed) (settings : LooperSettings)
    (lists : List (List Sound)) (bindings : List Binding) (loops : ℕ)
    → mid ≡ files → loops ≡ length settings.strips →
    Begins files n.session n.rate n.loops settings lists → Binds mid n.bind loops bindings
    → HoldsLive files n (record { settings = settings; lists = lists; bindings = bindings })
live_is_held files mid n settings lists bindings loops same counted begins binds =
    record {
      begins = begins;
      binds = subst (λ (y : Option Files × ℕ). Binds y.0 n.bind y.1 bindings)
          (λ j. (same j, counted j)) binds;
    }

-- what is judged was read
pub judged_reads :
    {P : Type 0} (k : Keeper P) (old new : P) (files : LiveFiles) (chunks : ℕ)
    (r : Result LiveFiles FilesFault) → OnlyReads k old new false
    → JudgesLive files chunks r → OnlyReads k old new (is_unread r)
judged_reads k old new files chunks (Ok f) reads judged = reads
judged_reads k old new files chunks (Err (File at kind line)) reads judged = absurd judged
judged_reads k old new files chunks (Err Read) reads judged = absurd judged
judged_reads k old new files chunks (Err Memory) reads judged = absurd judged
judged_reads k old new files chunks (Err Limit) reads judged = reads

pub judged_value :
    (files : Option Files) (n : LiveNamed) (f : LiveFiles) (r : Result LiveFiles FilesFault) →
    HoldsLive files n (told_live f) → JudgesLive f n.chunks r → ReadsLive files n r
judged_value files n f (Ok g) holds judged =
    subst (λ (h : LiveFiles). IsLiveOf files n (told_live h)) (sym judged.0)
    (record { holds = holds; within = judged.1 })
judged_value files n f (Err (File at kind line)) holds judged = absurd judged
judged_value files n f (Err Read) holds judged = absurd judged
judged_value files n f (Err Memory) holds judged = absurd judged
judged_value files n f (Err Limit) holds judged =
    record { contents = told_live f; holds = holds; beyond = judged }

-- what is bound are bindings for so many loops
bound_are_bindings : (files : Option Files) (bind : Option (List ℕ)) (loops : ℕ)
    (bindings : List Binding) → Binds files bind loops bindings → AreBindings loops bindings
bound_are_bindings files None loops bindings binds =
    subst (AreBindings loops) (sym binds) (record { few = omega arith; valid = tt })
bound_are_bindings files (Some bind) loops bindings binds = binds.text.whole

pub judged_bindings :
    (files : Option Files) (n : LiveNamed) (f : LiveFiles) (r : Result LiveFiles FilesFault) →
    HoldsLive files n (told_live f) → JudgesLive f n.chunks r
    → IfOk r (λ g. AreBindings (length g.settings.strips) g.bindings)
judged_bindings files n f (Ok g) holds judged =
    subst (λ (h : LiveFiles). AreBindings (length h.settings.strips) h.bindings) (sym judged.0)
    (bound_are_bindings files n.bind (length f.settings.strips) f.bindings holds.binds)
judged_bindings files n f (Err fault) holds judged = tt

-- a fault of reading is handed on
pub fault_reads :
    {P : Type 0} (k : Keeper P) (old new : P) (fault : LoadFault) (told : FilesFault) →
    OnlyReads k old new (is_unloaded {A = LiveFiles} (Err fault))
    → IsFaultOf fault told → OnlyReads k old new (is_unread {A = LiveFiles} (Err told))
fault_reads k old new (BadFile at kind line) told reads is =
    subst (λ (t : FilesFault). OnlyReads k old new (is_unread {A = LiveFiles} (Err t))) (sym is)
    reads
fault_reads k old new Unread told reads is =
    subst (λ (t : FilesFault). OnlyReads k old new (is_unread {A = LiveFiles} (Err t))) (sym is)
    reads
fault_reads k old new NoMemory told reads is =
    subst (λ (t : FilesFault). OnlyReads k old new (is_unread {A = LiveFiles} (Err t))) (sym is)
    reads

pub fault_value :
    (files : Option Files) (n : LiveNamed) (fault : LoadFault) (told : FilesFault) →
    SaysOf (FirstBadLive files n) fault → IsFaultOf fault told
    → ReadsLive files n (Err told)
fault_value files n (BadFile at kind line) told says is =
    subst (λ (t : FilesFault). ReadsLive files n (Err t)) (sym is) says
fault_value files n Unread told says is =
    subst (λ (t : FilesFault). ReadsLive files n (Err t)) (sym is) tt
fault_value files n NoMemory told says is =
    subst (λ (t : FilesFault). ReadsLive files n (Err t)) (sym is) tt

-- what good files tell is one
pub one_live : (files : Files) (n : LiveNamed) (t u : LiveContents) → IsLiveNamed n →
    HoldsLive (Some files) n t → HoldsLive (Some files) n u → t ≡ u
one_live files n t u named first second =
    let begins = one_beginning files n.session n.rate n.loops t.settings u.settings t.lists u.lists
    first.begins second.begins in
    let few = begins_with_few files n.session n.rate n.loops u.settings u.lists named.loops
    second.begins in
    let bindings = one_bound files n.bind (length u.settings.strips) t.bindings u.bindings few
    (subst (λ (s : LooperSettings). Binds (Some files) n.bind (length s.strips) t.bindings) begins.0
    first.binds) second.binds in
    λ i. record { settings = begins.0 i; lists = begins.1 i; bindings = bindings i }

-- good files have no bad one among them
pub live_or_bad : (files : Files) (n : LiveNamed) (t : LiveContents) (name : List ℕ)
    (kind line : ℕ) →
    IsLiveNamed n → HoldsLive (Some files) n t → FirstBadLive (Some files) n name kind line → ⊥
live_or_bad files n t name kind line named holds (bad_session first) =
    begins_or_bad files n.session n.rate n.loops t.settings t.lists name kind line holds.begins
    first
live_or_bad files n t name kind line named holds (bad_bindings settings lists begins first) =
    let same = one_beginning files n.session n.rate n.loops t.settings settings t.lists lists
    holds.begins begins in
    let few = begins_with_few files n.session n.rate n.loops settings lists named.loops begins in
    bound_or_bad files n.bind (length settings.strips) t.bindings name kind line few
    (subst (λ (s : LooperSettings). Binds (Some files) n.bind (length s.strips) t.bindings) same.0
    holds.binds) first

-- the first bad file is one
pub one_first_bad :
    (files : Files) (n : LiveNamed) (name other : List ℕ) (kind line kind_too line_too : ℕ) →
    IsLiveNamed n → FirstBadLive (Some files) n name kind line
    → FirstBadLive (Some files) n other kind_too line_too → (name ≡ other) × (kind ≡ kind_too)
    × (line ≡ line_too)
one_first_bad files n name other kind line kind_too line_too named (bad_session first)
    (bad_session second) =
    one_bad_beginning files n.session name other kind line kind_too line_too first second
one_first_bad files n name other kind line kind_too line_too named (bad_session first)
    (bad_bindings settings lists begins second) =
    absurd (begins_or_bad files n.session n.rate n.loops settings lists name kind line begins first)
one_first_bad files n name other kind line kind_too line_too named
    (bad_bindings settings lists begins first) (bad_session second) =
    absurd (begins_or_bad files n.session n.rate n.loops settings lists other kind_too line_too
    begins second)
one_first_bad files n name other kind line kind_too line_too named
    (bad_bindings settings lists begins first)
    (bad_bindings settings_too lists_too begins_too second) =
    let same = one_beginning files n.session n.rate n.loops settings settings_too lists lists_too
    begins begins_too in
    let few = begins_with_few files n.session n.rate n.loops settings_too lists_too named.loops
    begins_too in
    one_bad_bound files n.bind (length settings_too.strips) name other kind line kind_too line_too
    few
    (subst (λ (s : LooperSettings). IsBadBound (Some files) n.bind (length s.strips) name kind line)
    same.0 first) second

-- where there are chunks enough there aren't too few
pub live_or_limit : (files : Files) (n : LiveNamed) (t : LiveContents) → IsLiveNamed n →
    IsLiveOf (Some files) n t → ExceedsLive (Some files) n → ⊥
live_or_limit files n t named is beyond =
    let same = one_live files n beyond.contents t named beyond.holds is.holds in
    let most = is.within in
    let more = subst (λ (u : LiveContents). n.chunks < chunks_for u.lists) same beyond.beyond in
    absurd (omega (arith, most, more))
