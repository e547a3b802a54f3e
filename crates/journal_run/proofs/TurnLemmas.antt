-- What one turn of a run leaves.
use Rattle.std.proofs.Common.{◌≡◌, ℕ, zero, suc, ◌+◌, ◌<◌, ◌≤◌, min, List, [], ◌∷◌, ◌++◌, length, take, drop, get_or, refl, sym, ap, ◌∙◌, subst, arith}
use Rattle.std.specs.Prelude.{Result, Ok, Err, OnOk, option_to_list, IsTrue}
use Rattle.std.specs.List.{All}
use Rattle.sl_commands.specs.declared.Entry.{Entry}
use Rattle.sl_commands.specs.Entries.{are_stamped, last_frame, last_frame_from, FramesNeverFall}
use Rattle.sl_ports.specs.declared.keepers.Keeper.{Ghosts as Keeper}
use Rattle.looper_rules.specs.Entries.{reply, save}
use Rattle.run_laws.proofs.Runs.Cuts.{stamped_never_fall}
use Rattle.loop_saver.specs.declared.ending.Ending.TheVariants.{Memory}
use Rattle.loop_saver.specs.SavedFiles.{SavedFile, files_for_all}
use Rattle.loop_saver.specs.Accepting.{Writes}
use Rattle.loop_saver.proofs.AcceptLemmas.{writes_all, writes_before}
use Rattle.engine_steps.specs.Engines.{Beginning, first_looper, entry_of, took}
use Rattle.engine_steps.specs.InStep.{with_taken}
use Rattle.journal_run.specs.Clipping.{all_clipped}
use Rattle.wav_pcm.specs.Inputs.{InputOf}
use Rattle.save_feeding.specs.Feeding.{StopsAt, WritesAll, IsSomehowInStep}
use Rattle.journal_run.specs.Performing.{HasCome, HasTaken, IsPlayable, ComesOrStops, played_before, ran_over}
use Rattle.journal_run.specs.Runs.{RunOf, PlaysTo, Takes}
use Rattle.save_feeding.specs.declared.stopped.Stopped.{Stopped}
use Rattle.save_feeding.specs.declared.stopped.Stopped.TheVariants.{Memory as NoMemory}
use Rattle.journal_run.proofs.TakeLemmas.{may_take, taken_in_step}
use Rattle.journal_run.proofs.PlayLemmas.{come_frames, come_entry, files_for_all-append, first_saves, frame_at, all_later, stamped_entries, frames_played, played_before-push, stops_before, stops_in}

-- entries behind an index never fall below the last one before it
never_drop : (least index : ℕ) (es : List Entry) → FramesNeverFall least es →
    FramesNeverFall (last_frame_from least (take index es)) (drop index es)
never_drop least zero es never = never
never_drop least (suc index) [] never = never
never_drop least (suc index) (e ∷ es) never = never_drop e.frame index es never.1

-- entries behind an index are taken no earlier than so many frames
later_from : (count index : ℕ) (es : List Entry) → IsTrue (are_stamped es) →
    All (λ (e : Entry). played_before count es index ≤ e.frame) (all_clipped count (drop index es))
later_from count index es stamped =
    all_later count (drop index es) (last_frame (take index es))
    (never_drop 0 index es (stamped_never_fall es stamped)) (played_before count es index)
    (omega arith) (omega arith)

-- a run that wants memory between two entries
pub stop_now :
    {P : Type 0} (k : Keeper P) (b : Beginning) (es : List Entry) (input : InputOf) (start : P)
    (taken : ℕ) (now : P) (r : RunOf) → IsPlayable b es input →
    HasTaken k b es input start taken now r →
    StopsAt k (files_for_all b.settings.rate (ran_over es input (first_looper b)).saves) start now
    NoMemory
stop_now k b es input start taken now r playable come =
    let count = length input.frames in
    let s = come.so_far in
    let done = played_before count es taken in
    let within : done ≤ count = omega arith in
    let first = first_saves b s r.engine es input done taken come.step come.frames within
    come.entries (later_from count taken es playable.stamped) in
    let rate = b.settings.rate in
    let all : files_for_all rate (ran_over es input (first_looper b)).saves ≡ files_for_all rate
    s.saves ++ files_for_all rate first.0 =
    ap (files_for_all rate) first.1 ∙ files_for_all-append rate s.saves first.0 in
    subst (λ fs. Writes k fs start now Memory) (sym all) (
      writes_before (files_for_all rate s.saves) (files_for_all rate first.0) _ _
          (writes_all (files_for_all rate s.saves) _ _ come.files.0),
      come.files.1,
    )

-- a run that stops in the save of an entry
stop_in_entry :
    {P : Type 0} (k : Keeper P) (b : Beginning) (es : List Entry) (input : InputOf) (start : P)
    (done taken : ℕ) (x : Entry) (now later : P) (r : RunOf) (why : Stopped) →
    IsPlayable b es input → taken < length es → x ≡ get_or es taken x →
    done ≡ min x.frame (length input.frames) →
    HasCome k b es input start done taken now r →
    StopsAt k (files_for_all r.saver.rate
    (option_to_list (save (entry_of x.sender x.command r.engine) r.engine.looper))) now later why →
    StopsAt k (files_for_all b.settings.rate (ran_over es input (first_looper b)).saves) start later
    why
stop_in_entry k b es input start done taken x now later r why playable inside is place come stops =
    let count = length input.frames in
    let e = r.engine in
    let s = come.so_far in
    let en = entry_of x.sender x.command e in
    let rate = b.settings.rate in
    let made = option_to_list (save en e.looper) in
    let somehow : IsSomehowInStep e = record { beginning = b; so_far = s; step = come.step } in
    let step = taken_in_step b s en e (took en e) refl refl refl
    (may_take en e somehow come.none) come.step in
    let at : done ≡ played_before count es (taken + 1) =
    place ∙ sym (played_before-push count es taken x inside is) in
    let behind = subst
    (λ n. All (λ (f : Entry). n ≤ f.frame) (all_clipped count (drop (taken + 1) es))) (sym at)
    (later_from count (taken + 1) es playable.stamped) in
    let within : done ≤ count = omega (arith, place) in
    let entries = stamped_entries es count taken x e playable.stamped inside is come.entries
    (frames_played k b es input start done taken now r within come ∙ place) in
    let first = first_saves b (with_taken (reply en e.looper) (save en e.looper) s) (took en e) es
    input done (taken + 1) step come.frames within entries behind in
    let all : files_for_all rate (ran_over es input (first_looper b)).saves
    ≡ (files_for_all rate s.saves ++ files_for_all rate made) ++ files_for_all rate first.0 =
    ap (files_for_all rate) first.1 ∙ files_for_all-append rate (s.saves ++ made) first.0
    ∙ ap (λ (fs : List SavedFile). fs ++ files_for_all rate first.0)
    (files_for_all-append rate s.saves made) in
    stops_before k (files_for_all rate s.saves ++ files_for_all rate made)
    (files_for_all rate first.0) _ start later why all
    (stops_in k (files_for_all rate s.saves) (files_for_all rate made) start now later why
    come.files (subst (λ n. StopsAt k (files_for_all n made) now later why) come.rate stops))

-- the place of an entry is no earlier than that of those before it
pub entry_later : (es : List Entry) (count index until : ℕ) (x : Entry) → IsTrue (are_stamped es) →
    index < length es → x ≡ get_or es index x → until ≡ min x.frame count →
    played_before count es index ≤ until
entry_later es count index until x stamped inside is place =
    let last = frame_at es index x stamped inside is in omega (arith, last, place)

-- the run has played up to the entry that it takes next
pub comes_to_entry :
    {P : Type 0} (k : Keeper P) (b : Beginning) (es : List Entry) (input : InputOf) (start : P)
    (index until : ℕ) (x : Entry) (now : P) (r next : RunOf) → IsTrue (are_stamped es) →
    index < length es → x ≡ get_or es index x → until ≡ min x.frame (length input.frames) →
    HasTaken k b es input start index now r → PlaysTo input until r next →
    HasCome k b es input start until index now next
comes_to_entry k b es input start index until x now r next stamped inside is place come plays =
    come_frames k b es input start (played_before (length input.frames) es index) until index now r
    next (entry_later es (length input.frames) index until x stamped inside is place)
    (omega (arith, place)) come plays

-- the run takes the entry, or stops in its save
pub takes_or_stops :
    {P : Type 0} (k : Keeper P) (b : Beginning) (es : List Entry) (input : InputOf) (start : P)
    (until index : ℕ) (x : Entry) (now later : P) (r next : RunOf) (result : Result Unit Stopped) →
    IsPlayable b es input → index < length es → x ≡ get_or es index x →
    until ≡ min x.frame (length input.frames) →
    HasCome k b es input start until index now r →
    OnOk result (Takes (entry_of x.sender x.command r.engine) r next) →
    WritesAll k (files_for_all r.saver.rate
    (option_to_list (save (entry_of x.sender x.command r.engine) r.engine.looper))) now later
    result → ComesOrStops k b es input start (index + 1) later next result
takes_or_stops k b es input start until index x now later r next (Ok u) playable inside is place
    come takes files =
    subst (λ n. HasCome k b es input start n (index + 1) later next)
    (place ∙ sym (played_before-push (length input.frames) es index x inside is))
    (come_entry k b es input start until index x now later r next playable.stamped inside is place
    come takes files)
takes_or_stops k b es input start until index x now later r next (Err why) playable inside is place
    come takes files =
    stop_in_entry k b es input start until index x now later r why playable inside is place come
    files
