-- How a run comes on by frames, and by an entry.
use Rattle.std.proofs.Common.{◌≡◌, ℕ, zero, suc, ◌+◌, ◌-◌, ◌<◌, ◌≤◌, min, Bool, true, false, cond, List, [], ◌∷◌, ◌++◌, length, take, drop, get_or, refl, sym, ap, ap₂, ◌∙◌, subst, arith, append_assoc, length-append}
use Rattle.std.specs.Prelude.{Option, Some, None, option_to_list, IsTrue, ◌==◌, nat_le}
use Rattle.std.specs.List.{All}
use Rattle.std.proofs.lemmas.Grind.{flat_map-append}
use Rattle.std.proofs.lemmas.Bool.{and_parts, eqb-true, leb-true, eq-eqb}
use Rattle.std.proofs.lemmas.List.{length-take-le, take-append-drop, map-append}
use Rattle.std.proofs.lemmas.List.Elements.{All-cons, All-nil, filter-append}
use Rattle.std.proofs.Math.Seq.{drop-cons, take-add}
use Rattle.sl_base.specs.Sounds.{Sound}
use Rattle.sl_commands.specs.declared.Entry.{Entry}
use Rattle.sl_commands.specs.declared.Reply.{Reply}
use Rattle.sl_commands.specs.Entries.{entries_of, are_stamped, are_stamped_behind, may_be_next, last_frame, FramesNeverFall}
use Rattle.sl_commands.proofs.EntriesLemmas.{are_stamped_behind-append, last_frame-push}
use Rattle.sl_ports.specs.declared.keepers.Keeper.{Ghosts as Keeper}
use Rattle.wav_pcm.specs.WavText.{samples, frame_bytes}
use Rattle.looper_rules.specs.Saves.{Save}
use Rattle.looper_rules.specs.Run.{Ran, run}
use Rattle.looper_rules.specs.Cuts.{run_from}
use Rattle.looper_rules.specs.Entries.{reply, save}
use Rattle.run_laws.proofs.Runs.Cuts.{run-cut}
use Rattle.frame_stamp.specs.Journals.{JournalOf, HasRoom, next_seq, room_of}
use Rattle.loop_saver.specs.declared.ending.Ending.TheVariants.{Written, Failed, Memory}
use Rattle.loop_saver.specs.SavedFiles.{SavedFile, files_of_save, files_for_all}
use Rattle.loop_saver.specs.Savers.{SaverOf}
use Rattle.loop_saver.specs.Accepting.{Writes}
use Rattle.loop_saver.proofs.AcceptLemmas.{writes_more, writes_failed, writes_wanted}
use Rattle.engine_steps.specs.Engines.{EngineOf, Beginning, first_looper, entry_of, left, went_on, put_out}
use Rattle.engine_steps.specs.InStep.{SoFar, IsInStep, with_taken, with_frames}
use Rattle.engine_steps.proofs.StepLemmas.{went_on_in_step}
use Rattle.journal_run.specs.Clipping.{clipped, all_clipped}
use Rattle.wav_pcm.specs.Inputs.{InputOf, span_of}
use Rattle.save_feeding.specs.Feeding.{StopsAt}
use Rattle.journal_run.specs.Performing.{HasRoomFor, HasCome, head_of, played_before, ran_over}
use Rattle.journal_run.specs.RunTexts.{reply_line, reply_lines}
use Rattle.journal_run.specs.Runs.{RunOf, IsSpelledAs, PlaysTo, Takes, frames_to}
use Rattle.save_feeding.specs.declared.stopped.Stopped.{Stopped}
use Rattle.save_feeding.specs.declared.stopped.Stopped.TheVariants.{Writing, Memory as NoMemory}
use Rattle.journal_run.proofs.ClipLemmas.{run-clipped}

-- more replies are more lines
reply_lines-append : (rs more : List Reply) →
    reply_lines (rs ++ more) ≡ reply_lines rs ++ reply_lines more
reply_lines-append [] more = refl
reply_lines-append (r ∷ rs) more =
    ap (λ (l : List ℕ). reply_line r ++ l) (reply_lines-append rs more)
    ∙ sym (append_assoc (reply_line r) (reply_lines rs) (reply_lines more))

-- more saves have more files
pub files_for_all-append : (rate : ℕ) (ss more : List Save) →
    files_for_all rate (ss ++ more) ≡ files_for_all rate ss ++ files_for_all rate more
files_for_all-append rate [] more = refl
files_for_all-append rate (s ∷ ss) more =
    ap (λ (fs : List SavedFile). files_of_save rate s ++ fs) (files_for_all-append rate ss more)
    ∙ sym
    (append_assoc (files_of_save rate s) (files_for_all rate ss) (files_for_all rate more))

-- how many frames the engine has played
pub frames_played :
    {P : Type 0} (k : Keeper P) (b : Beginning) (es : List Entry) (input : InputOf) (start : P)
    (done taken : ℕ) (now : P) (r : RunOf) → done ≤ length input.frames →
    HasCome k b es input start done taken now r → r.engine.frames ≡ done
frames_played k b es input start done taken now r within come =
    come.step.frames ∙ ap length come.frames ∙ length-take-le done input.frames within

-- the run comes on by frames
pub come_frames :
    {P : Type 0} (k : Keeper P) (b : Beginning) (es : List Entry) (input : InputOf) (start : P)
    (done until taken : ℕ) (now : P) (r next : RunOf) → done ≤ until →
    until ≤ length input.frames → HasCome k b es input start done taken now r →
    PlaysTo input until r next → HasCome k b es input start until taken now next
come_frames k b es input start done until taken now r next order within come plays =
    let here = frames_played k b es input start done taken now r (omega arith) come in
    let e = r.engine in
    let s = come.so_far in
    let xs = span_of done (until - done) input.frames in
    let same : frames_to input until r ≡ xs = ap (λ n. span_of n (until - n) input.frames) here in
    let played : next.engine ≡ went_on xs e =
    plays.engine ∙ ap (λ (ys : List Sound). went_on ys e) same in
    record {
      so_far = with_frames xs (put_out xs e) s;
      step = subst (IsInStep b (with_frames xs (put_out xs e) s)) (sym played)
          (went_on_in_step b s xs e come.step);
      frames = ap (λ (ys : List Sound). ys ++ xs) come.frames
          ∙ sym (take-add done (until - done) input.frames)
          ∙ ap (λ n. take n input.frames) (let all : done + (until - done) ≡ until = omega arith
          in all);
      entries = ap (λ (f : EngineOf). f.journal.entries) played ∙ come.entries;
      quota = ap (λ (f : EngineOf). f.journal.quota) played ∙ come.quota;
      none = ap left played ∙ come.none;
      idle = ap (λ (f : SaverOf). f.saving) plays.saver ∙ come.idle;
      rate = ap (λ (f : SaverOf). f.rate) plays.saver ∙ come.rate;
      spelled = plays.spelled;
      heard = plays.out
          ∙ ap₂ (λ (o : List ℕ) (ys : List Sound). o
          ++ samples input.channels input.bits (put_out ys e)) come.heard same
          ∙ append_assoc (head_of input) (samples input.channels input.bits s.output)
          (samples input.channels input.bits (put_out xs e))
          ∙ ap (λ (o : List ℕ). head_of input ++ o)
          (sym
          (flat_map-append (frame_bytes input.channels input.bits) s.output (put_out xs e)));
      told = plays.text ∙ come.told;
      counted = plays.replies ∙ come.counted;
      few = (let before = come.few in let told = plays.replies in omega (arith, before, told));
      files = come.files;
    }

-- the entry of an index, and those before and behind it
parted : (es : List Entry) (index : ℕ) (x : Entry) → index < length es → x ≡ get_or es index x →
    es ≡ take index es ++ x ∷ drop (suc index) es
parted es index x inside is =
    sym (take-append-drop index es)
    ∙ ap (λ (ds : List Entry). take index es ++ ds) (drop-cons es index x inside
    ∙ ap (λ y. y ∷ drop (suc index) es) (sym is))

-- clipping changes no sender
senders_clipped : (count sender : ℕ) (es : List Entry) →
    next_seq sender (all_clipped count es) ≡ next_seq sender es
senders_clipped count sender [] = refl
senders_clipped count sender (e ∷ es) = by (e.sender == sender) (senders_clipped count sender es)
  where
    by : (is : Bool) → next_seq sender (all_clipped count es) ≡ next_seq sender es →
        length
        (cond is (clipped count e ∷ entries_of sender (all_clipped count es))
        (entries_of sender (all_clipped count es)))
        ≡ length (cond is (e ∷ entries_of sender es) (entries_of sender es))
    by true rest = ap suc rest
    by false rest = rest

-- an entry may stand behind those before it
next_at : (es : List Entry) (index : ℕ) (x : Entry) → IsTrue (are_stamped es) → index < length es →
    x ≡ get_or es index x → may_be_next (take index es) x ≡ true
next_at es index x stamped inside is =
    let whole : are_stamped (take index es ++ x ∷ drop (suc index) es) ≡ true =
    ap are_stamped (sym (parted es index x inside is)) ∙ stamped in
    let both =
    and_parts (are_stamped_behind [] (take index es))
    (are_stamped_behind ([] ++ take index es) (x ∷ drop (suc index) es))
    (sym (are_stamped_behind-append [] (take index es) (x ∷ drop (suc index) es)) ∙ whole) in
    (and_parts (may_be_next (take index es) x) _ both.1).0

-- it has its sender's next number, and its frame isn't below the last
seq_at : (es : List Entry) (index : ℕ) (x : Entry) → IsTrue (are_stamped es) → index < length es →
    x ≡ get_or es index x → x.seq ≡ next_seq x.sender (take index es)
seq_at es index x stamped inside is =
    let both =
    and_parts (nat_le (last_frame (take index es)) x.frame)
    (x.seq == next_seq x.sender (take index es)) (next_at es index x stamped inside is) in
    eqb-true x.seq (next_seq x.sender (take index es)) both.1

pub frame_at : (es : List Entry) (index : ℕ) (x : Entry) → IsTrue (are_stamped es) →
    index < length es → x ≡ get_or es index x → last_frame (take index es) ≤ x.frame
frame_at es index x stamped inside is =
    let both =
    and_parts (nat_le (last_frame (take index es)) x.frame)
    (x.seq == next_seq x.sender (take index es)) (next_at es index x stamped inside is) in
    leb-true (last_frame (take index es)) x.frame both.0

-- with one entry more
take-push : (es : List Entry) (index : ℕ) (x : Entry) → index < length es → x ≡ get_or es index x →
    take (index + 1) es ≡ take index es ++ x ∷ []
take-push [] index x inside is = absurd (omega arith)
take-push (e ∷ es) zero x inside is = ap (λ y. y ∷ []) (sym is)
take-push (e ∷ es) (suc index) x inside is =
    ap (λ n. take n (e ∷ es)) (let more : suc index + 1 ≡ suc (index + 1) = omega arith in more)
    ∙ ap (λ (ys : List Entry). e ∷ ys) (take-push es index x (omega arith) is)

-- where the next entry is taken
pub played_before-push : (count : ℕ) (es : List Entry) (index : ℕ) (x : Entry) → index < length es →
    x ≡ get_or es index x → played_before count es (index + 1) ≡ min x.frame count
played_before-push count es index x inside is =
    ap (λ (ys : List Entry). min (last_frame ys) count) (take-push es index x inside is)
    ∙ ap (λ n. min n count) (last_frame-push 0 (take index es) x)

-- the entry that is stamped is the journal's, at the frame where it is taken
pub stamped_so :
    (es : List Entry) (count index : ℕ) (x : Entry) (e : EngineOf) → IsTrue (are_stamped es) →
    index < length es → x ≡ get_or es index x →
    e.journal.entries ≡ all_clipped count (take index es) → e.frames ≡ min x.frame count →
    entry_of x.sender x.command e ≡ clipped count x
stamped_so es count index x e stamped inside is entries frames =
    let seq : next_seq x.sender e.journal.entries ≡ x.seq = ap (next_seq x.sender) entries
    ∙ senders_clipped count x.sender (take index es) ∙ sym (seq_at es index x stamped inside is)
    in
    ap₂ (λ (n m : ℕ). let r : Entry =
    record { frame = n; sender = x.sender; seq = m; command = x.command } in r) frames seq

-- so the journal is that of one entry more
pub stamped_entries :
    (es : List Entry) (count index : ℕ) (x : Entry) (e : EngineOf) → IsTrue (are_stamped es) →
    index < length es → x ≡ get_or es index x →
    e.journal.entries ≡ all_clipped count (take index es) → e.frames ≡ min x.frame count →
    e.journal.entries ++ entry_of x.sender x.command e ∷ []
    ≡ all_clipped count (take (index + 1) es)
stamped_entries es count index x e stamped inside is entries frames =
    ap₂ (λ (a : List Entry) (y : Entry). a ++ y ∷ []) entries
    (stamped_so es count index x e stamped inside is entries frames)
    ∙ sym (map-append (clipped count) (take index es) (x ∷ []))
    ∙ ap (all_clipped count) (sym (take-push es index x inside is))

-- its sender has room
pub has_room_at :
    (es : List Entry) (count quota index : ℕ) (x : Entry) (e : EngineOf) → HasRoomFor quota es →
    index < length es → x ≡ get_or es index x →
    e.journal.entries ≡ all_clipped count (take index es) → e.journal.quota ≡ quota →
    HasRoom x.sender e.journal
has_room_at es count quota index x e room inside is entries quota_is =
    let before = next_seq x.sender (take index es) in
    let here : next_seq x.sender e.journal.entries ≡ before = ap (next_seq x.sender) entries
    ∙ senders_clipped count x.sender (take index es) in
    let all : next_seq x.sender es ≡ next_seq x.sender (take index es ++ x ∷ drop (suc index) es) =
    ap (next_seq x.sender) (parted es index x inside is) in
    let split : next_seq x.sender (take index es ++ x ∷ drop (suc index) es)
    ≡ before + next_seq x.sender (x ∷ drop (suc index) es) =
    ap length
    (filter-append (λ (f : Entry). f.sender == x.sender) (take index es)
    (x ∷ drop (suc index) es)) ∙ length-append (entries_of x.sender (take index es)) _ in
    let one : next_seq x.sender (x ∷ drop (suc index) es)
    ≡ suc (next_seq x.sender (drop (suc index) es)) = rw (eq-eqb x.sender x.sender refl) refl in
    let most = room x.sender in
    let quota_same = ap (room_of x.sender) quota_is in
    omega (arith, most, quota_same)

at_most_one : {X : Type 0} (o : Option X) → length (option_to_list o) ≤ 1
at_most_one None = omega arith
at_most_one (Some x) = omega arith

-- the run comes on by an entry
pub come_entry :
    {P : Type 0} (k : Keeper P) (b : Beginning) (es : List Entry) (input : InputOf) (start : P)
    (done taken : ℕ) (x : Entry) (now later : P) (r next : RunOf) → IsTrue (are_stamped es) →
    taken < length es → x ≡ get_or es taken x → done ≡ min x.frame (length input.frames) →
    HasCome k b es input start done taken now r →
    Takes (entry_of x.sender x.command r.engine) r next →
    Writes k
    (files_for_all r.saver.rate
    (option_to_list (save (entry_of x.sender x.command r.engine) r.engine.looper))) now later
    Written → HasCome k b es input start done (taken + 1) later next
come_entry k b es input start done taken x now later r next stamped inside is place come takes files
    =
    let e = r.engine in
    let s = come.so_far in
    let en = entry_of x.sender x.command e in
    let made = option_to_list (save en e.looper) in
    let answer = option_to_list (reply en e.looper) in
    let count = length input.frames in
    let on = takes.step b s come.step in
    let played =
    frames_played k b es input start done taken now r (omega (arith, place)) come in
    record {
      so_far = record (with_taken (reply en e.looper) (save en e.looper) s) { sent = on.sent };
      step = on.step;
      frames = come.frames;
      entries = ap (λ (j : JournalOf). j.entries) takes.journal
          ∙ stamped_entries es count taken x e stamped inside is come.entries (played ∙ place);
      quota = ap (λ (j : JournalOf). j.quota) takes.journal ∙ come.quota;
      none = takes.none;
      idle = takes.idle;
      rate = takes.rate ∙ come.rate;
      spelled = subst (IsSpelledAs input) (sym takes.period) come.spelled;
      heard = takes.out ∙ come.heard;
      told = takes.text ∙ ap (λ (t : List ℕ). t ++ reply_lines answer) come.told
          ∙ sym (reply_lines-append s.replies answer);
      counted = takes.replies ∙ ap (λ n. n + length answer) come.counted
          ∙ sym (length-append s.replies answer);
      few =
          (let before = come.few in let one = at_most_one (reply en e.looper) in
          let counted = takes.replies in omega (arith, before, one, counted));
      files =
          subst (λ fs. Writes k fs start later Written)
          (sym (files_for_all-append b.settings.rate s.saves made))
          (writes_more k (files_for_all b.settings.rate s.saves)
          (files_for_all b.settings.rate made) start now later Written come.files
          (subst (λ r. Writes k (files_for_all r made) now later Written) come.rate files));
    }

-- entries from an index on are taken no earlier
pub all_later : (count : ℕ) (es : List Entry) (least : ℕ) → FramesNeverFall least es → (done : ℕ) →
    done ≤ least → done ≤ count → All (λ (e : Entry). done ≤ e.frame) (all_clipped count es)
all_later count [] least never done early within = All-nil (λ (e : Entry). done ≤ e.frame)
all_later count (e ∷ es) least never done early within =
    let here : done ≤ min e.frame count = (let first = never.0 in omega arith) in
    All-cons (λ (f : Entry). done ≤ f.frame) (clipped count e) (all_clipped count es) here
    (all_later count es e.frame never.1 done (let first = never.0 in omega arith) within)

-- the saves so far are the first ones of the whole run
pub first_saves :
    (b : Beginning) (s : SoFar) (e : EngineOf) (es : List Entry) (input : InputOf)
    (done taken : ℕ) → IsInStep b s e → s.input ≡ take done input.frames →
    done ≤ length input.frames →
    e.journal.entries ≡ all_clipped (length input.frames) (take taken es) →
    All (λ (f : Entry). done ≤ f.frame) (all_clipped (length input.frames) (drop taken es)) →
    (more : List Save) × ((ran_over es input (first_looper b)).saves ≡ s.saves ++ more)
first_saves b s e es input done taken step frames within entries later =
    let l = first_looper b in
    let count = length input.frames in
    let first = all_clipped count (take taken es) in
    let next = all_clipped count (drop taken es) in
    let xs = take done input.frames in
    let ys = drop done input.frames in
    let so_long : length xs ≡ done = length-take-le done input.frames within in
    let up_to : All (λ (f : Entry). f.frame ≤ length xs) first =
    subst (λ fs. All (λ (f : Entry). f.frame ≤ length xs) fs) entries
    (subst (λ n. All (λ (f : Entry). f.frame ≤ n) e.journal.entries)
    (step.frames ∙ ap length frames) step.before) in
    let from : All (λ (f : Entry). length xs ≤ f.frame) next =
    subst (λ n. All (λ (f : Entry). n ≤ f.frame) next) (sym so_long) later in
    let parts : all_clipped count es ≡ first ++ next =
    ap (all_clipped count) (sym (take-append-drop taken es))
    ∙ map-append (clipped count) (take taken es) (drop taken es) in
    let whole =
    ap₂ (λ (fs : List Entry) (zs : List Sound). run fs zs l) parts
    (sym (take-append-drop done input.frames)) ∙ run-cut first next xs ys l up_to from in
    let begun : (run first xs l).saves ≡ s.saves =
    ap₂ (λ (fs : List Entry) (zs : List Sound). (run fs zs l).saves) (sym entries) (sym frames)
    ∙ ap (λ (r : Ran). r.saves) step.ran in
    let more = (run_from (length xs) next ys (run first xs l).looper).saves in (
      more,
      ap (λ (r : Ran). r.saves) (sym (run-clipped es input.frames l) ∙ whole)
          ∙ ap (λ (ss : List Save). ss ++ more) begun,
    )

-- a run that stopped has written the first of the files of its saves
pub stops_before :
    {P : Type 0} (k : Keeper P) (fs more all : List SavedFile) (start now : P) (why : Stopped) →
    all ≡ fs ++ more → StopsAt k fs start now why → StopsAt k all start now why
stops_before k fs more all start now Writing is stops =
    subst (λ a. Writes k a start now Failed) (sym is) (writes_failed k fs more start now stops)
stops_before k fs more all start now NoMemory is stops =
    subst (λ a. Writes k a start now Memory) (sym is) (writes_wanted k fs more start now stops)

-- a run that stopped in one save has written those before it
pub stops_in :
    {P : Type 0} (k : Keeper P) (fs gs : List SavedFile) (start now later : P) (why : Stopped) →
    Writes k fs start now Written → StopsAt k gs now later why →
    StopsAt k (fs ++ gs) start later why
stops_in k fs gs start now later Writing first stops =
    writes_more k fs gs start now later Failed first stops
stops_in k fs gs start now later NoMemory first stops =
    writes_more k fs gs start now later Memory first stops
