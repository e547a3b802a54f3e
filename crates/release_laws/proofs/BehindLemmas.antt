-- Whoever holds the pin of a loop asked by one of the entries for a save that is unanswered, so a
-- release answers the save of an entry before it.
use Rattle.std.proofs.Common.{◌≡◌, ⊎_elim, ℕ, zero, suc, ◌<◌, Bool, true, false, not, List, [], ◌∷◌, ◌++◌, length, filter, take, Option, Some, None, slice_get, if◌then◌else◌, refl, sym, ap, ◌∙◌, subst, arith, append_assoc}
use Rattle.std.specs.Prelude.{option_to_list}
use Rattle.std.specs.List.{Contains}
use Rattle.std.proofs.lemmas.Bool.{and_parts}
use Rattle.std.proofs.lemmas.List.Elements.{Contains-append_left, Contains-append_right}
use Rattle.sl_base.specs.Sounds.{Sound}
use Rattle.sl_commands.specs.declared.Target.{Target}
use Rattle.sl_commands.specs.declared.Command.{Command}
use Rattle.sl_commands.specs.declared.Command.TheVariants.{Release}
use Rattle.sl_commands.specs.declared.Entry.{Entry}
use Rattle.sl_commands.specs.declared.Reply.{Reply}
use Rattle.sl_commands.specs.declared.StripSettings.{StripSettings}
use Rattle.sl_commands.specs.Commands.{is_allowed}
use Rattle.sl_commands.specs.Entries.{is_sender, FramesNeverFall}
use Rattle.sl_commands.specs.Settings.{LooperSettings}
use Rattle.looper_rules.specs.Looper.{Asker, Looper}
use Rattle.looper_rules.specs.Saves.{Save}
use Rattle.looper_rules.specs.Entries.{is_taken, applied, reply, reply_of, save}
use Rattle.looper_rules.specs.Run.{first_tracks, start, Ran, run}
use Rattle.looper_rules.specs.Unanswered.{answers, still_unanswered, unanswered_after, unanswered, held_for}
use Rattle.looper_laws.proofs.Kept.Askers.{askers_of}
use Rattle.run_laws.specs.Places.{place_of, met, ComesWithEntry}
use Rattle.run_laws.specs.Questions.{question}
use Rattle.run_laws.proofs.Runs.Cuts.{run-run_from}
use Rattle.run_laws.proofs.Runs.Places.{before_is_before}
use Rattle.release_laws.specs.Releases.{AnswersASaveBefore}
use Rattle.release_laws.proofs.EndLemmas.{run_from-askers, askers-one_more, unanswered-with_one, gives_longer, front_never, onward}
use Rattle.release_laws.proofs.HolderLemmas.{question_by, LeavesTarget, Holds, Stays, Saves, applied-held, Answered, release_answered}

-- what passes a test is among what passes of all
kept_in : {X : Type 0} (keeps : X → Bool) (xs : List X) (x : X) → Contains xs x → keeps x ≡ true →
    Contains (filter keeps xs) x
kept_in keeps [] x at passes = absurd (let inside : at.0 < 0 = at.1 in omega arith)
kept_in keeps (y ∷ ys) x (zero, inside, is) passes =
    let same : y ≡ x = cc in
    let kept : keeps y ≡ true = ap keeps same ∙ passes in
    let there : 0 < length (y ∷ filter keeps ys) = omega arith in
    subst (λ b. Contains (if b then y ∷ filter keeps ys else filter keeps ys) x) (sym kept)
    (zero, there, same)
kept_in keeps (y ∷ ys) x (suc n, inside, is) passes =
    by_test (keeps y) (kept_in keeps ys x (n, omega arith, is) passes)
  where
    by_test : (b : Bool) → Contains (filter keeps ys) x →
        Contains (if b then y ∷ filter keeps ys else filter keeps ys) x
    by_test true rest = Contains-append_right (y ∷ []) (filter keeps ys) x rest
    by_test false rest = rest

-- a save that a command doesn't answer stays among the unanswered
still_there : (c : Command) (saves : List Save) (s : Save) → LeavesTarget c s.target →
    Contains saves s → Contains (still_unanswered c saves) s
still_there (Release target outcome) saves s leaves at =
    kept_in (λ (x : Save). not (answers target x.target)) saves s at (ap not leaves)
still_there _ saves s leaves at = at

after_there : (e : Entry) (l : Looper) (saves : List Save) (s : Save) →
    (is_taken e l ≡ true → LeavesTarget e.command s.target) → Contains saves s →
    Contains (unanswered_after e l saves) s
after_there e l saves s leaves at =
    Contains-append_left _ (option_to_list (save e l)) s (by_taken (is_taken e l) leaves)
  where
    by_taken : (b : Bool) → (b ≡ true → LeavesTarget e.command s.target) →
        Contains (if b then still_unanswered e.command saves else saves) s
    by_taken true leaves = still_there e.command saves s (leaves refl) at
    by_taken false leaves = at

own_save : (e : Entry) (l : Looper) (saves : List Save) (s : Save) → save e l ≡ Some s →
    Contains (unanswered_after e l saves) s
own_save e l saves s made =
    Contains-append_right _ (option_to_list (save e l)) s
    (subst (λ o. Contains (option_to_list o) s) (sym made)
    (let inside : 0 < length (s ∷ []) = omega arith in (zero, inside, refl)))

-- at the beginning nobody holds a loop
first_unheld : (strips : List StripSettings) (lists : List (List Sound)) (k : ℕ) (a : Asker) →
    slice_get (askers_of (first_tracks strips lists)) k ≡ Some (Some a) → ⊥
first_unheld [] lists k a is = cc
first_unheld (s ∷ ss) [] zero a is = cc
first_unheld (s ∷ ss) [] (suc k) a is = first_unheld ss [] k a is
first_unheld (s ∷ ss) (list ∷ lists) zero a is = cc
first_unheld (s ∷ ss) (list ∷ lists) (suc k) a is = first_unheld ss lists k a is

module _ (l : Looper) where
  -- an entry asked for the save for which this asker holds the track of this index
  pub record AskedBy (es : List Entry) (input : List Sound) (k : ℕ) (a : Asker) : Type 0 where
    pub made : Save
    pub comes : ComesWithEntry save es input l made
    pub target : made.target ≡ held_for k a
    pub asks : question comes.entry ≡ Some (question_by a)
    pub waits : Contains (unanswered es input l) made

  -- whoever holds a loop is such a one
  abbrev pub AreAsked : List Entry → Type 0
  AreAsked es =
      (input : List Sound) (k : ℕ) (a : Asker) → Holds k a (run es input l).looper.tracks →
      AskedBy es input k a

  asked_still : (es : List Entry) (e : Entry) (input : List Sound) (k : ℕ) (a : Asker) →
      FramesNeverFall 0 (es ++ e ∷ []) → AskedBy es (take e.frame input) k a →
      Stays e (met es e input l) k a → AskedBy (es ++ e ∷ []) input k a
  asked_still es e input k a never was stays =
      let c = was.comes in
      let there = gives_longer save es e.frame input l was.made
      (before_is_before es e [] never) c in
      record {
        made = was.made;
        comes = record {
          before = c.before;
          entry = c.entry;
          after = c.after ++ e ∷ [];
          whole = ap (λ all. all ++ e ∷ []) c.whole
              ∙ append_assoc c.before (c.entry ∷ c.after) (e ∷ []);
          made = there.1;
        };
        target = was.target;
        asks = was.asks;
        waits = subst (λ ss. Contains ss was.made) (sym (unanswered-with_one es e input l never))
            (after_there e (met es e input l) (unanswered es (take e.frame input) l) was.made
            (λ taken. subst (LeavesTarget e.command) (sym was.target) (stays.stays taken))
            was.waits);
      }

  asked_now : (es : List Entry) (e : Entry) (input : List Sound) (k : ℕ) (a : Asker) →
      FramesNeverFall 0 (es ++ e ∷ []) → Saves e (met es e input l) k a →
      AskedBy (es ++ e ∷ []) input k a
  asked_now es e input k a never now =
      record {
        made = now.made;
        comes = record { before = es; entry = e; after = []; whole = refl; made = now.is };
        target = now.target;
        asks = now.asks;
        waits = subst (λ ss. Contains ss now.made) (sym (unanswered-with_one es e input l never))
            (own_save e (met es e input l) (unanswered es (take e.frame input) l) now.made now.is);
      }

  asked_more : (es : List Entry) (e : Entry) → FramesNeverFall 0 (es ++ e ∷ []) → AreAsked es →
      AreAsked (es ++ e ∷ [])
  asked_more es e never asked input k a held =
      let there = met es e input l in
      let here : Holds k a (applied (place_of e input) e there).tracks =
      ap (λ ks. slice_get ks k) (sym (askers-one_more es e input l never)) ∙ held in
      ⊎_elim
      (λ (h : Stays e there k a).
      asked_still es e input k a never (asked (take e.frame input) k a h.held) h)
      (λ (h : Saves e there k a). asked_now es e input k a never h)
      (applied-held (place_of e input) e there k a here)

  pub all_asked : (es : List Entry) → FramesNeverFall 0 es →
      ((k : ℕ) (a : Asker) → Holds k a l.tracks → ⊥) → AreAsked es
  all_asked es never free =
      onward AreAsked asked_more [] es never
      (λ input k a held. absurd (free k a
      (ap (λ ks. slice_get ks k) (sym (ap (λ (r : Ran). askers_of r.looper.tracks)
      (run-run_from [] input l) ∙ run_from-askers 0 input l)) ∙ held)))

  -- a release answers the save of an entry before it
  pub answers_before : (before : List Entry) (e : Entry) (after : List Entry) (input : List Sound)
      (answer : Reply) (target : Target) (outcome : ℕ) →
      FramesNeverFall 0 (before ++ e ∷ after) →
      ((k : ℕ) (a : Asker) → Holds k a l.tracks → ⊥) → e.command ≡ Release target outcome →
      Answered target (met before e input l) answer → AnswersASaveBefore before e input l answer
  answers_before before e after input answer target outcome never free is whose =
      let xs = take e.frame input in
      let was = all_asked before (front_never 0 before (e ∷ after) never) free xs whose.k
      whose.asker whose.held in
      let c = was.comes in
      let there = gives_longer save before e.frame input l was.made
      (before_is_before before e after never) c in
      record {
        made = was.made;
        comes = record {
          before = c.before;
          entry = c.entry;
          after = c.after;
          whole = c.whole;
          made = there.1;
        };
        frame = there.0;
        asked = was.asks ∙ ap (λ q. Some q) whose.asked;
        waits = was.waits;
        ends = ap (λ c. still_unanswered c (was.made ∷ [])) is
            ∙ ap (λ b. if not b then was.made ∷ [] else [])
            (ap (answers target) was.target ∙ whose.ends);
      }

-- an entry of the saver that gives a reply is a release
valid_reply : {X : Type 0} (b : Bool) (o : Option X) (x : X) → (if b then o else None) ≡ Some x →
    (b ≡ true) × (o ≡ Some x)
valid_reply true o x is = (refl, is)
valid_reply false o x is = absurd (cc)

pub record IsRelease (e : Entry) (l : Looper) (answer : Reply) : Type 0 where
  pub target : Target
  pub outcome : ℕ
  pub command : e.command ≡ Release target outcome
  pub whose : Answered target l answer

saver_releases : (c : Command) (e : Entry) (l : Looper) (answer : Reply) → is_sender 2 c ≡ true →
    e.command ≡ c → reply_of c e l ≡ Some answer → IsRelease e l answer
saver_releases (Release target outcome) e l answer sender is gives =
    record {
      target = target;
      outcome = outcome;
      command = is;
      whose = release_answered target outcome l answer gives;
    }
saver_releases _ e l answer sender is gives = absurd (cc)

pub saver_reply : (e : Entry) (l : Looper) (answer : Reply) → e.sender ≡ 2 →
    reply e l ≡ Some answer → IsRelease e l answer
saver_reply e l answer of_saver gives =
    let valid = valid_reply (is_taken e l) (reply_of e.command e l) answer gives in
    let sender = (and_parts (is_sender e.sender e.command) (is_allowed (length l.tracks) e.command)
    valid.0).0 in
    saver_releases e.command e l answer
    (ap (λ s. is_sender s e.command) (sym of_saver) ∙ sender) refl valid.1

pub start_unheld : (settings : LooperSettings) (chunks : ℕ) (initial : List (List Sound)) (k : ℕ)
    (a : Asker) → Holds k a (start settings chunks initial).tracks → ⊥
start_unheld settings chunks initial k a held = first_unheld settings.strips initial k a held

-- so its reply answers the save of an entry before it
pub release_behind : (settings : LooperSettings) (chunks : ℕ) (initial : List (List Sound))
    (before : List Entry) (e : Entry) (after : List Entry) (input : List Sound) (answer : Reply) →
    FramesNeverFall 0 (before ++ e ∷ after) → e.sender ≡ 2 →
    reply e (met before e input (start settings chunks initial)) ≡ Some answer →
    AnswersASaveBefore before e input (start settings chunks initial) answer
release_behind settings chunks initial before e after input answer never of_saver gives =
    let l = start settings chunks initial in
    let is = saver_reply e (met before e input l) answer of_saver gives in
    answers_before l before e after input answer is.target is.outcome never
    (start_unheld settings chunks initial) is.command is.whose
