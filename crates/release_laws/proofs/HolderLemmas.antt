-- Who holds the pin of a loop behind an entry: whoever held it before and isn't released, or the
-- entry itself, which saves this loop or the session.
use Rattle.std.proofs.Common.{◌≡◌, ◌≢◌, ◌⊎◌, inl, inr, ⊎_elim, ℕ, zero, suc, pos, negsuc, Bool, true, false, List, [], ◌∷◌, map, Option, Some, None, slice_get, option_map, if◌then◌else◌, refl, sym, ap, ◌∙◌, arith, ne_eqb, eq-eqb}
use Rattle.std.specs.Prelude.{⊤}
use Rattle.sl_commands.specs.declared.What.{What}
use Rattle.sl_commands.specs.declared.What.TheVariants.{Save as OfLoop, Session as OfSession}
use Rattle.sl_commands.specs.declared.Target.{Target}
use Rattle.sl_commands.specs.declared.Target.TheVariants.{One, All, Selected}
use Rattle.sl_commands.specs.declared.Command.{Command}
use Rattle.sl_commands.specs.declared.Command.TheVariants.{Down, Up, Hit, Set, SetGlobal, Get, GetGlobal, SaveLoop, SaveSession, Release, Quit}
use Rattle.sl_commands.specs.declared.Entry.{Entry}
use Rattle.sl_commands.specs.declared.Reply.{Reply}
use Rattle.looper_rules.specs.Presses.{given, pressed, released}
use Rattle.looper_rules.specs.Looper.{Asker, Track, Looper, free_of, index_of}
use Rattle.looper_rules.specs.Saves.{Save, session_refusal, loop_asker, session_asker, asker_or, running_session}
use Rattle.looper_rules.specs.Entries.{is_taken, sets, applied, performed, asker_of, refusal_at, track_of, saves_loop, saves_session, releases, loop_save, session_save, unless_refused, save, save_of, release_reply, outcome_for, ended_asker}
use Rattle.looper_rules.specs.Unanswered.{answers, held_for}
use Rattle.looper_laws.proofs.Kept.Askers.{askers_of, changed_at, at_target-same, at_index-pinned, map-pinned, without, without_loop, without_session, at_index-released, map-released, ended_at, ended_asker-at, running, running-tracks}
use Rattle.run_laws.specs.Questions.{Question, question, question_for, asked_for, answered}
use Rattle.run_laws.proofs.Answers.Pending.{question_as}

-- what an asker asked for
abbrev pub what_of : Bool → What
what_of true = OfSession
what_of false = OfLoop

abbrev pub question_by : Asker → Question
question_by a = question_as (what_of a.of_session) a

-- a command doesn't answer the save with this target
abbrev pub LeavesTarget : Command → Target → Type 0
LeavesTarget (Release target outcome) other = answers target other ≡ false
LeavesTarget _ other = ⊤

-- this asker holds the track of this index
abbrev pub Holds : ℕ → Asker → List Track → Type 0
Holds k a ts = slice_get (askers_of ts) k ≡ Some (Some a)

-- the asker held it before, and the command answers another save
pub record HeldBefore (c : Command) (l : Looper) (k : ℕ) (a : Asker) : Type 0 where
  pub held : Holds k a l.tracks
  pub stays : LeavesTarget c (held_for k a)

-- the asker holds it from this entry on, which made a save
pub record HoldsNow (c : Command) (e : Entry) (l : Looper) (k : ℕ) (a : Asker) : Type 0 where
  pub made : Save
  pub is : save_of c l ≡ Some made
  pub target : made.target ≡ held_for k a
  pub asks : option_map (question_for e) (asked_for c) ≡ Some (question_by a)

abbrev pub Held : Command → Entry → Looper → ℕ → Asker → Type 0
Held c e l k a = HeldBefore c l k a ⊎ HoldsNow c e l k a

-- where an asker was changed
pub record ChangedHere (k j : ℕ) (change : Option Asker → Option Asker)
    (askers : List (Option Asker)) (a : Asker) : Type 0 where
  pub same : k ≡ j
  pub before : Option Asker
  pub there : slice_get askers k ≡ Some before
  pub now : change before ≡ Some a

some_same : {X : Type 0} (x y : X) → Some x ≡ Some y → x ≡ y
some_same x y is = cc

get-changed_at : (j k : ℕ) (change : Option Asker → Option Asker) (askers : List (Option Asker))
    (a : Asker) → slice_get (changed_at j change askers) k ≡ Some (Some a) →
    ChangedHere k j change askers a ⊎ ((k ≢ j) × (slice_get askers k ≡ Some (Some a)))
get-changed_at j k change [] a is = absurd (cc)
get-changed_at zero zero change (x ∷ rest) a is =
    inl (record { same = refl; before = x; there = refl; now = some_same _ _ is })
get-changed_at zero (suc k) change (x ∷ rest) a is = inr (λ same. absurd (omega arith), is)
get-changed_at (suc j) zero change (x ∷ rest) a is = inr (λ same. absurd (omega arith), is)
get-changed_at (suc j) (suc k) change (x ∷ rest) a is =
    ⊎_elim
    (λ (h : ChangedHere k j change rest a).
    inl (record { same = ap suc h.same; before = h.before; there = h.there; now = h.now }))
    (λ (h : (k ≢ j) × (slice_get rest k ≡ Some (Some a))).
    inr (λ same. h.0 (omega arith), h.1))
    (get-changed_at j k change rest a is)

-- a save of a loop
track_there : (k : ℕ) (ts : List Track) (before : Option Asker) →
    slice_get (askers_of ts) k ≡ Some before → (t : Track) × (slice_get ts k ≡ Some t)
track_there k [] before is = absurd (cc)
track_there zero (t ∷ ts) before is = (t, refl)
track_there (suc k) (t ∷ ts) before is = track_there k ts before is

loop_saved : (target : Target) (name : List ℕ) (e : Entry) (l : Looper) (k : ℕ) (a : Asker)
    (refusal : Option ℕ) → refusal_at target l ≡ refusal →
    Holds k a
    (saves_loop refusal (index_of target l.globals.selected_loop_num) (asker_of e false) l).tracks →
    Held (SaveLoop target name) e l k a
loop_saved target name e l k a (Some n) refused is = inl (record { held = is; stays = tt })
loop_saved target name e l k a None unrefused is =
    let j = index_of target l.globals.selected_loop_num in
    ⊎_elim here (λ h. inl (record { held = h.1; stays = tt }))
    (get-changed_at j k (λ b. Some (asker_of e false)) (askers_of l.tracks) a
    (ap (λ ks. slice_get ks k) (sym (at_index-pinned j (asker_of e false) 0 l.tracks)) ∙ is))
  where
    here : ChangedHere k (index_of target l.globals.selected_loop_num)
        (λ b. Some (asker_of e false)) (askers_of l.tracks) a →
        Held (SaveLoop target name) e l k a
    here h =
        let t = track_there k l.tracks h.before h.there in
        let own : asker_of e false ≡ a = some_same _ _ h.now in
        inr (record {
          made = loop_save target name l t.0;
          is = ap (λ r. unless_refused r
              (option_map (loop_save target name l) (track_of target l))) unrefused
              ∙ ap (option_map (loop_save target name l))
              (ap (slice_get l.tracks) (sym h.same) ∙ t.1);
          target = ap One (sym h.same) ∙ ap (held_for k) own;
          asks = ap (λ b. Some (question_by b)) own;
        })

-- a save of the session
all_hold : (asker : Asker) (k : ℕ) (askers : List (Option Asker)) (a : Asker) →
    slice_get (map (λ (b : Option Asker). Some asker) askers) k ≡ Some (Some a) → asker ≡ a
all_hold asker k [] a is = absurd (cc)
all_hold asker zero (b ∷ rest) a is = cc
all_hold asker (suc k) (b ∷ rest) a is = all_hold asker k rest a is

session_saved : (name : List ℕ) (e : Entry) (l : Looper) (k : ℕ) (a : Asker) (refusal : Option ℕ) →
    session_refusal l.tracks ≡ refusal →
    Holds k a (saves_session refusal (asker_of e true) l).tracks →
    Held (SaveSession name) e l k a
session_saved name e l k a (Some n) refused is = inl (record { held = is; stays = tt })
session_saved name e l k a None unrefused is =
    let own : asker_of e true ≡ a =
    all_hold (asker_of e true) k (askers_of l.tracks) a
    (ap (λ ks. slice_get ks k) (sym (map-pinned (asker_of e true) l.tracks)) ∙ is) in
    inr (record {
      made = session_save name l;
      is = ap (λ r. unless_refused r (Some (session_save name l))) unrefused;
      target = ap (held_for k) own;
      asks = ap (λ b. Some (question_by b)) own;
    })

-- the asker of a loop's save, and of a session's
pub loop_kind : (x : Option Asker) (a : Asker) → loop_asker x ≡ Some a →
    (x ≡ Some a) × (a.of_session ≡ false)
loop_kind None a is = absurd (cc)
loop_kind (Some b) a is = by_kind b.of_session refl is
  where
    by_kind : (kind : Bool) → b.of_session ≡ kind → (if kind then None else Some b) ≡ Some a →
        (Some b ≡ Some a) × (a.of_session ≡ false)
    by_kind true known here = absurd (cc)
    by_kind false known here =
        (here, ap (λ (c : Asker). c.of_session) (sym (some_same b a here)) ∙ known)

pub session_kind : (x : Option Asker) (a : Asker) → session_asker x ≡ Some a →
    (x ≡ Some a) × (a.of_session ≡ true)
session_kind None a is = absurd (cc)
session_kind (Some b) a is = by_kind b.of_session refl is
  where
    by_kind : (kind : Bool) → b.of_session ≡ kind → (if kind then Some b else None) ≡ Some a →
        (Some b ≡ Some a) × (a.of_session ≡ true)
    by_kind true known here =
        (here, ap (λ (c : Asker). c.of_session) (sym (some_same b a here)) ∙ known)
    by_kind false known here = absurd (cc)

-- who stays when the saves of loops or of sessions are released
stays_session : (x : Option Asker) (a : Asker) → without_loop x ≡ Some a →
    (x ≡ Some a) × (a.of_session ≡ true)
stays_session None a is = absurd (cc)
stays_session (Some b) a is = by_kind b.of_session refl is
  where
    by_kind : (kind : Bool) → b.of_session ≡ kind →
        without (if kind then None else Some b) (Some b) ≡ Some a →
        (Some b ≡ Some a) × (a.of_session ≡ true)
    by_kind true known here =
        (here, ap (λ (c : Asker). c.of_session) (sym (some_same b a here)) ∙ known)
    by_kind false known here = absurd (cc)

stays_loop : (x : Option Asker) (a : Asker) → without_session x ≡ Some a →
    (x ≡ Some a) × (a.of_session ≡ false)
stays_loop None a is = absurd (cc)
stays_loop (Some b) a is = by_kind b.of_session refl is
  where
    by_kind : (kind : Bool) → b.of_session ≡ kind →
        without (if kind then Some b else None) (Some b) ≡ Some a →
        (Some b ≡ Some a) × (a.of_session ≡ false)
    by_kind true known here = absurd (cc)
    by_kind false known here =
        (here, ap (λ (c : Asker). c.of_session) (sym (some_same b a here)) ∙ known)

-- which releases answer whose save
other_loop : (j k : ℕ) (kind : Bool) → k ≢ j →
    answers (One j) (if kind then All else One k) ≡ false
other_loop j k true other = refl
other_loop j k false other = ne_eqb k j other

no_loop_of : (j k : ℕ) (kind : Bool) → kind ≡ true →
    answers (One j) (if kind then All else One k) ≡ false
no_loop_of j k true is = refl
no_loop_of j k false is = absurd (cc)

no_session_of : (k : ℕ) (kind : Bool) → kind ≡ false →
    answers All (if kind then All else One k) ≡ false
no_session_of k true is = absurd (cc)
no_session_of k false is = refl

none_of : (k : ℕ) (kind : Bool) → answers Selected (if kind then All else One k) ≡ false
none_of k true = refl
none_of k false = refl

own_loop : (k : ℕ) (kind : Bool) → kind ≡ false →
    answers (One k) (if kind then All else One k) ≡ true
own_loop k true is = absurd (cc)
own_loop k false is = eq-eqb k k refl

own_session : (k : ℕ) (kind : Bool) → kind ≡ true → answers All (if kind then All else One k) ≡ true
own_session k true is = refl
own_session k false is = absurd (cc)

get-mapped : (k : ℕ) (askers : List (Option Asker)) (a : Asker) →
    slice_get (map without_session askers) k ≡ Some (Some a) →
    (slice_get askers k ≡ Some (Some a)) × (a.of_session ≡ false)
get-mapped k [] a is = absurd (cc)
get-mapped zero (x ∷ rest) a is =
    let here = stays_loop x a (some_same _ _ is) in (ap (λ y. Some y) here.0, here.1)
get-mapped (suc k) (x ∷ rest) a is = get-mapped k rest a is

-- a release
release_left : (target : Target) (outcome : ℕ) (l : Looper) (k : ℕ) (a : Asker) →
    Holds k a (releases target l).tracks → HeldBefore (Release target outcome) l k a
release_left (One j) outcome l k a is =
    ⊎_elim
    (λ (h : ChangedHere k j without_loop (askers_of l.tracks) a).
    let was = stays_session h.before a h.now in
    record {
      held = h.there ∙ ap (λ y. Some y) was.0;
      stays = no_loop_of j k a.of_session was.1;
    })
    (λ (h : (k ≢ j) × (slice_get (askers_of l.tracks) k ≡ Some (Some a))).
    record { held = h.1; stays = other_loop j k a.of_session h.0 })
    (get-changed_at j k without_loop (askers_of l.tracks) a
    (ap (λ ks. slice_get ks k) (sym (at_index-released j 0 l.tracks)) ∙ is))
release_left All outcome l k a is =
    let was = get-mapped k (askers_of l.tracks) a
    (ap (λ ks. slice_get ks k) (sym (map-released l.tracks)) ∙ is) in
    record { held = was.0; stays = no_session_of k a.of_session was.1 }
release_left Selected outcome l k a is = record { held = is; stays = none_of k a.of_session }

-- the command of a valid entry
same_held : (old now : List Track) (k : ℕ) (a : Asker) → askers_of now ≡ askers_of old →
    Holds k a now → Holds k a old
same_held old now k a same is = ap (λ ks. slice_get ks k) (sym same) ∙ is

performed-held : (c : Command) (frame : ℕ) (e : Entry) (l : Looper) (k : ℕ) (a : Asker) →
    Holds k a (performed c frame e l).tracks → Held c e l k a
performed-held (Down target verb) frame e l k a is =
    inl (record {
      held = same_held l.tracks _ k a
          (at_target-same target l.globals.selected_loop_num (pressed verb frame)
          (free_of l.chunks l.tracks) l.tracks) is;
      stays = tt;
    })
performed-held (Up target verb) frame e l k a is =
    inl (record {
      held = same_held l.tracks _ k a
          (at_target-same target l.globals.selected_loop_num
          (released verb frame l.globals.long_press) (free_of l.chunks l.tracks) l.tracks) is;
      stays = tt;
    })
performed-held (Hit target verb) frame e l k a is =
    inl (record {
      held = same_held l.tracks _ k a
          (at_target-same target l.globals.selected_loop_num (given verb)
          (free_of l.chunks l.tracks) l.tracks) is;
      stays = tt;
    })
performed-held (Set target control value) frame e l k a is =
    inl (record {
      held = same_held l.tracks _ k a
          (at_target-same target l.globals.selected_loop_num (sets control value)
          (free_of l.chunks l.tracks) l.tracks) is;
      stays = tt;
    })
performed-held (SetGlobal control value) frame e l k a is = inl (record { held = is; stays = tt })
performed-held (Get target control) frame e l k a is = inl (record { held = is; stays = tt })
performed-held (GetGlobal control) frame e l k a is = inl (record { held = is; stays = tt })
performed-held (SaveLoop target name) frame e l k a is =
    loop_saved target name e l k a (refusal_at target l) refl is
performed-held (SaveSession name) frame e l k a is =
    session_saved name e l k a (session_refusal l.tracks) refl is
performed-held (Release target outcome) frame e l k a is =
    inl (release_left target outcome l k a is)
performed-held Quit frame e l k a is = inl (record { held = is; stays = tt })

-- an asker that held a loop before an entry, and whose save this doesn't answer where it is valid
pub record Stays (e : Entry) (l : Looper) (k : ℕ) (a : Asker) : Type 0 where
  pub held : Holds k a l.tracks
  pub stays : is_taken e l ≡ true → LeavesTarget e.command (held_for k a)

-- an asker that holds a loop by an entry
pub record Saves (e : Entry) (l : Looper) (k : ℕ) (a : Asker) : Type 0 where
  pub made : Save
  pub is : save e l ≡ Some made
  pub target : made.target ≡ held_for k a
  pub asks : question e ≡ Some (question_by a)

pub applied-held : (frame : ℕ) (e : Entry) (l : Looper) (k : ℕ) (a : Asker) →
    Holds k a (applied frame e l).tracks → Stays e l k a ⊎ Saves e l k a
applied-held frame e l k a is = by_taken (is_taken e l) refl is
  where
    by_taken : (b : Bool) → is_taken e l ≡ b →
        Holds k a (if b then performed e.command frame e l else l).tracks →
        Stays e l k a ⊎ Saves e l k a
    by_taken true valid here =
        ⊎_elim
        (λ (h : HeldBefore e.command l k a).
        inl (record { held = h.held; stays = λ taken. h.stays }))
        (λ (h : HoldsNow e.command e l k a).
        inr (record {
          made = h.made;
          is = ap (λ b. if b then save_of e.command l else None) valid ∙ h.is;
          target = h.target;
          asks = h.asks;
        }))
        (performed-held e.command frame e l k a here)
    by_taken false valid here =
        inl (record {
          held = here;
          stays = λ taken. absurd (let clash : true ≡ false = sym taken ∙ valid in cc);
        })

-- whose save a release answers: this asker holds the track of this index, and the reply is to it
pub record Answered (target : Target) (l : Looper) (answer : Reply) : Type 0 where
  pub k : ℕ
  pub asker : Asker
  pub held : Holds k asker l.tracks
  pub asked : question_by asker ≡ answered answer
  pub ends : answers target (held_for k asker) ≡ true

ended_holder : (k : ℕ) (askers : List (Option Asker)) (a : Asker) → ended_at k askers ≡ Some a →
    (slice_get askers k ≡ Some (Some a)) × (a.of_session ≡ false)
ended_holder k [] a is = absurd (cc)
ended_holder zero (x ∷ rest) a is =
    let here = loop_kind x a is in (ap (λ y. Some y) here.0, here.1)
ended_holder (suc k) (x ∷ rest) a is = ended_holder k rest a is

running_holder : (askers : List (Option Asker)) (a : Asker) → running askers ≡ Some a →
    (k : ℕ) × (slice_get askers k ≡ Some (Some a)) × (a.of_session ≡ true)
running_holder [] a is = absurd (cc)
running_holder (x ∷ rest) a is =
    by_asker (session_asker x) refl is (λ more. running_holder rest a more)
  where
    by_asker : (o : Option Asker) → session_asker x ≡ o → asker_or o (running rest) ≡ Some a →
        (running rest ≡ Some a →
        (k : ℕ) × (slice_get rest k ≡ Some (Some a)) × (a.of_session ≡ true)) →
        (k : ℕ) × (slice_get (x ∷ rest) k ≡ Some (Some a)) × (a.of_session ≡ true)
    by_asker None none more behind =
        let there = behind more in (suc there.0, there.1, there.2)
    by_asker (Some b) is_b same behind =
        let here = session_kind x a (is_b ∙ same) in (zero, ap (λ y. Some y) here.0, here.1)

reply_of_asker : (index : _) (what : What) (outcome : ℕ) (a : Asker) (answer : Reply) →
    Some (outcome_for index what outcome a) ≡ Some answer → what ≡ what_of a.of_session →
    question_by a ≡ answered answer
reply_of_asker index what outcome a answer is kind =
    ap (λ w. question_as w a) (sym kind) ∙ ap answered (some_same _ _ is)

pub release_answered : (target : Target) (outcome : ℕ) (l : Looper) (answer : Reply) →
    release_reply target outcome l ≡ Some answer → Answered target l answer
release_answered (One k) outcome l answer is = by_asker (ended_asker k l) refl is
  where
    by_asker : (o : Option Asker) → ended_asker k l ≡ o →
        option_map (outcome_for (pos k) OfLoop outcome) o ≡ Some answer →
        Answered (One k) l answer
    by_asker None none here = absurd (cc)
    by_asker (Some a) ended here =
        let there = ended_holder k (askers_of l.tracks) a (sym (ended_asker-at k l) ∙ ended) in
        record {
          k = k;
          asker = a;
          held = there.0;
          asked = reply_of_asker (pos k) OfLoop outcome a answer here (ap what_of (sym there.1));
          ends = own_loop k a.of_session there.1;
        }
release_answered All outcome l answer is = by_asker (running_session l.tracks) refl is
  where
    by_asker : (o : Option Asker) → running_session l.tracks ≡ o →
        option_map (outcome_for (negsuc 1) OfSession outcome) o ≡ Some answer →
        Answered All l answer
    by_asker None none here = absurd (cc)
    by_asker (Some a) runs here =
        let there = running_holder (askers_of l.tracks) a (sym (running-tracks l.tracks) ∙ runs) in
        record {
          k = there.0;
          asker = a;
          held = there.1;
          asked = reply_of_asker (negsuc 1) OfSession outcome a answer here
              (ap what_of (sym there.2));
          ends = own_session there.0 a.of_session there.2;
        }
release_answered Selected outcome l answer is = absurd (cc)
