-- Each reply of a session has a return address: only commands of OSC ask, and each of them that
-- asks was accepted with its address.
use Rattle.std.proofs.Common.{◌≡◌, ℕ, zero, suc, ◌+◌, Bool, true, false, ◌==◌, nat_lt, List, [], ◌∷◌, ◌++◌, map, if◌then◌else◌, ◌⊎◌, inl, inr, Option, Some, None, option_map, is_some, slice_get, refl, sym, ap, ◌∙◌, subst, ltb-true, arith}
use Rattle.std.specs.Prelude.{Contains}
use Rattle.std.specs.List.{AllByRecursion, cons_option}
use Rattle.std.proofs.lemmas.Bool.{and_parts}
use Rattle.std.proofs.lemmas.Option.{slice_get-map}
use Rattle.std.proofs.lemmas.List.Elements.{recursion_from_All}
use Rattle.sl_base.specs.Sounds.{Sound}
use Rattle.sl_commands.specs.declared.What.{What}
use Rattle.sl_commands.specs.declared.Command.{Command}
use Rattle.sl_commands.specs.declared.Command.TheVariants.{Down, Up, Hit, Set, SetGlobal, Get, GetGlobal, SaveLoop, SaveSession, Release, Quit}
use Rattle.sl_commands.specs.declared.Entry.{Entry}
use Rattle.sl_commands.specs.declared.Reply.{Reply}
use Rattle.sl_commands.specs.Entries.{is_sender, is_valid, command_in, entries_of, commands_of, AreNumberedFrom, are_stamped}
use Rattle.sl_commands.specs.Commands.{is_allowed}
use Rattle.sl_commands.specs.Settings.{LooperSettings}
use Rattle.sl_commands.proofs.EntriesLemmas.{stamped_is_in_order}
use Rattle.looper_rules.specs.Run.{run, start}
use Rattle.run_laws.specs.Questions.{Question, asked_for, question, question_for, questions, answered}
use Rattle.run_laws.proofs.Answers.Runs.{start-asked}
use Rattle.midi_bindings.specs.Played.{is_played}
use Rattle.osc_paths.specs.declared.request.ReturnTo.{ReturnTo}
use Rattle.senders.specs.declared.accepted.Accepted.{Accepted}
use Rattle.senders.specs.Commands.{commands_in, asks, has_return, IsGood, AreGood}
use Rattle.reply_sending.specs.Answers.{answer_of}
use Rattle.live_session.specs.Whole.{HasReturn}

-- an entry is one of these
abbrev Stands : Entry → List Entry → Type 0
Stands en [] = ⊥
Stands en (e ∷ es) = (en ≡ e) ⊎ Stands en es

-- an entry that asks this is one of these
record Asked (es : List Entry) (q : Question) : Type 0 where
  entry : Entry
  stands : Stands entry es
  is : question entry ≡ Some q

asked_later : (e : Entry) (es : List Entry) (q : Question) → Asked es q → Asked (e ∷ es) q
asked_later e es q a = record { entry = a.entry; stands = inr a.stands; is = a.is }

rest_contains : (x : Question) (xs : List Question) (q : Question) → Contains (x ∷ xs) q →
    (x ≡ q) ⊎ Contains xs q
rest_contains x xs q (zero, within, is) = inl is
rest_contains x xs q (suc k, within, is) = inr (k, omega arith, is)

asked_place : (e : Entry) (es : List Entry) (x q : Question) → question e ≡ Some x →
    (x ≡ q) ⊎ Contains (questions es) q → (Contains (questions es) q → Asked es q) →
    Asked (e ∷ es) q
asked_place e es x q is (inl same) others =
    record { entry = e; stands = inl refl; is = is ∙ ap Some same }
asked_place e es x q is (inr later) others = asked_later e es q (others later)

asked_first : (e : Entry) (es : List Entry) (q : Question) (o : Option Question) → question e ≡ o →
    Contains (cons_option o (questions es)) q → (Contains (questions es) q → Asked es q) →
    Asked (e ∷ es) q
asked_first e es q None is has others = asked_later e es q (others has)
asked_first e es q (Some x) is has others =
    asked_place e es x q is (rest_contains x (questions es) q has) others

asked_in : (es : List Entry) (q : Question) → Contains (questions es) q → Asked es q
asked_in [] q (k, within, is) = absurd (omega arith)
asked_in (e ∷ es) q has = asked_first e es q (question e) refl has (asked_in es q)

stands_later : (b : Bool) (en e : Entry) (es : List Entry) → Stands en es →
    Stands en (if b then e ∷ es else es)
stands_later true en e es stands = inr stands
stands_later false en e es stands = stands

-- an entry of a sender is one of the sender's
stands_own : (s : ℕ) (en : Entry) (es : List Entry) → (en.sender == s) ≡ true → Stands en es →
    Stands en (entries_of s es)
stands_own s en [] own stands = stands
stands_own s en (e ∷ es) own (inl is) =
    by_test (e.sender == s) (ap (λ (x : Entry). x.sender == s) (sym is) ∙ own)
  where
    by_test : (b : Bool) → b ≡ true →
        Stands en (if b then e ∷ entries_of s es else entries_of s es)
    by_test true mine = inl is
    by_test false mine = absurd (cc)
stands_own s en (e ∷ es) own (inr later) =
    stands_later (e.sender == s) en e (entries_of s es) (stands_own s en es own later)

-- and stands there at its number
at_number : (first : ℕ) (es : List Entry) (en : Entry) → AreNumberedFrom first es →
    Stands en es → (k : ℕ) × (en.seq ≡ first + k) × (slice_get es k ≡ Some en)
at_number first [] en numbers stands = absurd stands
at_number first (e ∷ es) en numbers (inl is) = (
  0,
  (let n = numbers.0 in let s = ap (λ (x : Entry). x.seq) is in omega arith),
  ap Some (sym is),
)
at_number first (e ∷ es) en numbers (inr later) =
    let next = at_number (first + 1) es en numbers.1 later in
    (suc next.0, (let s = next.1 in omega arith), next.2)

-- what holds of all commands of a sender holds of its entry's
of_sender : (P : Command → Type 0) (es : List Entry) (en : Entry) →
    AllByRecursion P (map command_in es) → Stands en es → P en.command
of_sender P [] en all stands = absurd stands
of_sender P (e ∷ es) en all (inl is) = subst (λ (x : Entry). P x.command) (sym is) all.0
of_sender P (e ∷ es) en all (inr later) = of_sender P es en all.1 later

of_entries : (P : Entry → Type 0) (es : List Entry) (en : Entry) → AllByRecursion P es →
    Stands en es → P en
of_entries P [] en all stands = absurd stands
of_entries P (e ∷ es) en all (inl is) = subst P (sym is) all.0
of_entries P (e ∷ es) en all (inr later) = of_entries P es en all.1 later

-- what MIDI plays asks nothing
pub played_asks_nothing : (c : Command) → is_played c ≡ true → asked_for c ≡ None
played_asks_nothing (Down target verb) played = refl
played_asks_nothing (Up target verb) played = refl
played_asks_nothing (Hit target verb) played = refl
played_asks_nothing (Set target control value) played = refl
played_asks_nothing (SetGlobal control value) played = refl
played_asks_nothing (Get target control) played = absurd (cc)
played_asks_nothing (GetGlobal control) played = absurd (cc)
played_asks_nothing (SaveLoop target name) played = absurd (cc)
played_asks_nothing (SaveSession name) played = absurd (cc)
played_asks_nothing (Release target outcome) played = refl
played_asks_nothing Quit played = refl

-- what asks has a reply, and comes of OSC or MIDI
asks_where : (c : Command) (what : What) → asked_for c ≡ Some what → asks c ≡ true
asks_where (Down target verb) what is = absurd (cc)
asks_where (Up target verb) what is = absurd (cc)
asks_where (Hit target verb) what is = absurd (cc)
asks_where (Set target control value) what is = absurd (cc)
asks_where (SetGlobal control value) what is = absurd (cc)
asks_where (Get target control) what is = refl
asks_where (GetGlobal control) what is = refl
asks_where (SaveLoop target name) what is = refl
asks_where (SaveSession name) what is = refl
asks_where (Release target outcome) what is = absurd (cc)
asks_where Quit what is = absurd (cc)

asker_is : (s : ℕ) (c : Command) → asks c ≡ true → is_sender s c ≡ true → nat_lt s 2 ≡ true
asker_is s (Down target verb) asks sends = absurd (cc)
asker_is s (Up target verb) asks sends = absurd (cc)
asker_is s (Hit target verb) asks sends = absurd (cc)
asker_is s (Set target control value) asks sends = absurd (cc)
asker_is s (SetGlobal control value) asks sends = absurd (cc)
asker_is s (Get target control) asks sends = sends
asker_is s (GetGlobal control) asks sends = sends
asker_is s (SaveLoop target name) asks sends = sends
asker_is s (SaveSession name) asks sends = sends
asker_is s (Release target outcome) asks sends = absurd (cc)
asker_is s Quit asks sends = absurd (cc)

-- the accepted command at a number
record AcceptedAt (accepted : List Accepted) (k : ℕ) (c : Command) : Type 0 where
  one : Accepted
  there : slice_get accepted k ≡ Some one
  command : one.command ≡ c

accepted_at : (accepted : List Accepted) (taken left : List Command) (k : ℕ) (c : Command) →
    commands_in accepted ≡ taken ++ left → slice_get taken k ≡ Some c → AcceptedAt accepted k c
accepted_at accepted [] left k c whole is = absurd (cc)
accepted_at [] (t ∷ taken) left k c whole is = absurd (cc)
accepted_at (a ∷ accepted) (t ∷ taken) left zero c whole is =
    record { one = a; there = refl; command = cc }
accepted_at (a ∷ accepted) (t ∷ taken) left (suc k) c whole is =
    let later = accepted_at accepted taken left k c (cc) is in
    record { one = later.one; there = later.there; command = later.command }

good_at : (loops : ℕ) (accepted : List Accepted) (k : ℕ) (a : Accepted) → AreGood 0 loops accepted →
    slice_get accepted k ≡ Some a → IsGood 0 loops a
good_at loops [] k a good is = absurd (cc)
good_at loops (x ∷ accepted) zero a good is = subst (IsGood 0 loops) (cc) good.0
good_at loops (x ∷ accepted) (suc k) a good is = good_at loops accepted k a good.1 is

-- an answer that is there
returns_some : (a : Option ReturnTo) →
    has_return a ≡ true → is_some a ≡ true
returns_some None has = absurd (cc)
returns_some (Some to) has = refl

-- so the reply to such an entry has an address
address_of : (loops : ℕ) (accepted : List Accepted) (r : Reply) (c : Command) → r.sender ≡ 0 →
    AreGood 0 loops accepted → asks c ≡ true → AcceptedAt accepted r.seq c → HasReturn accepted r
address_of loops accepted r c own good asked at =
    let is_good = good_at loops accepted r.seq at.one good at.there in
    let has : has_return at.one.answer ≡ true =
    is_good.returns ∙ ap asks at.command ∙ asked in
    subst (λ (s : ℕ). is_some (if s == 0 then answer_of (slice_get accepted r.seq) else None) ≡
    true)
    (sym own)
    (subst (λ (o : Option Accepted). is_some (answer_of o) ≡ true) (sym at.there)
    (returns_some at.one.answer has))

-- a question of an entry names it
same_question : (en : Entry) (what : What) (r : Reply) →
    Some (question_for en what) ≡ Some (answered r) → question_for en what ≡ answered r
same_question en what r is = cc

same_sender : (en : Entry) (what : What) (r : Reply) →
    Some (question_for en what) ≡ Some (answered r) → en.sender ≡ r.sender
same_sender en what r is = ap (λ (q : Question). q.sender) (same_question en what r is)

same_seq : (en : Entry) (what : What) (r : Reply) →
    Some (question_for en what) ≡ Some (answered r) → en.seq ≡ r.seq
same_seq en what r is = ap (λ (q : Question). q.seq) (same_question en what r is)

-- what a session keeps of its commands, as far as they were taken
pub record Known (loops : ℕ) (es : List Entry) (accepted : List Accepted) (taken left : List
    Command)
    : Type 0 where
  pub stamped : are_stamped es ≡ true
  pub valid : AllByRecursion (λ (en : Entry). is_valid loops en ≡ true) es
  pub good : AreGood 0 loops accepted
  pub whole : commands_in accepted ≡ taken ++ left
  pub osc : commands_of 0 es ≡ taken
  pub midi : AllByRecursion (λ (c : Command). asked_for c ≡ None) (commands_of 1 es)

-- a reply to a question that was entered has an address
one_addressed : (loops : ℕ) (es : List Entry) (accepted : List Accepted)
    (taken left : List Command) (r : Reply) → Known loops es accepted taken left →
    Contains (questions es) (answered r) → HasReturn accepted r
one_addressed loops es accepted taken left r known has =
    by_what (asked_for en.command) refl
    (subst (λ (q : Option Question). q ≡ Some (answered r)) refl a.is)
  where
    a : Asked es (answered r)
    a = asked_in es (answered r) has

    en : Entry
    en = a.entry

    by_sender : (s : ℕ) → en.sender ≡ s → (what : What) → asked_for en.command ≡ Some what →
        nat_lt s 2 ≡ true → Some (question_for en what) ≡ Some (answered r) → HasReturn accepted r
    by_sender zero own what asked below is =
        let at = at_number 0 (entries_of 0 es) en
        ((stamped_is_in_order es known.stamped).numbers 0)
        (stands_own 0 en es (ap (λ (s : ℕ). s == 0) own) a.stands) in
        let there : slice_get (commands_of 0 es) at.0 ≡ Some en.command =
        slice_get-map command_in (entries_of 0 es) at.0 ∙ ap (option_map command_in) at.2 in
        let seq : at.0 ≡ r.seq = let n = at.1 in let m = same_seq en what r is in omega arith in
        let found : slice_get taken r.seq ≡ Some en.command =
        subst (λ (cs : List Command). slice_get cs r.seq ≡ Some en.command) known.osc
        (subst (λ (k : ℕ). slice_get (commands_of 0 es) k ≡ Some en.command) seq there) in
        address_of loops accepted r en.command (sym (same_sender en what r is) ∙ own) known.good
        (asks_where en.command what asked)
        (accepted_at accepted taken left r.seq en.command known.whole found)
    by_sender (suc zero) own what asked below is =
        let none = of_sender (λ (c : Command). asked_for c ≡ None) (entries_of 1 es) en known.midi
        (stands_own 1 en es (ap (λ (s : ℕ). s == 1) own) a.stands) in
        absurd (cc)
    by_sender (suc (suc s)) own what asked below is =
        let two = ltb-true (suc (suc s)) 2 below in absurd (omega arith)

    by_what : (o : Option What) → asked_for en.command ≡ o →
        option_map (question_for en) o ≡ Some (answered r) → HasReturn accepted r
    by_what None asked is = absurd (cc)
    by_what (Some what) asked is =
        let sends = and_parts (is_sender en.sender en.command) (is_allowed loops en.command)
        (of_entries (λ (e : Entry). is_valid loops e ≡ true) es en known.valid a.stands) in
        by_sender en.sender refl what asked
        (asker_is en.sender en.command (asks_where en.command what asked) sends.0) is

pub all_weaker : {X : Type 0} (P Q : X → Type 0) (xs : List X) → ((x : X) → P x → Q x) →
    AllByRecursion P xs → AllByRecursion Q xs
all_weaker P Q [] f all = tt
all_weaker P Q (x ∷ xs) f all = (f x all.0, all_weaker P Q xs f all.1)

-- so each reply of a run has
pub addressed : (settings : LooperSettings) (chunks : ℕ) (initial : List (List Sound))
    (loops : ℕ) (es : List Entry) (input : List Sound) (accepted : List Accepted)
    (taken left : List Command) → Known loops es accepted taken left →
    AllByRecursion (HasReturn accepted) (run es input (start settings chunks initial)).replies
addressed settings chunks initial loops es input accepted taken left known =
    let replies = (run es input (start settings chunks initial)).replies in
    all_weaker (λ (r : Reply). Contains (questions es) (answered r)) (HasReturn accepted) replies
    (λ r has. one_addressed loops es accepted taken left r known has)
    (recursion_from_All (λ (r : Reply). Contains (questions es) (answered r)) replies
    (start-asked settings chunks initial es input))
