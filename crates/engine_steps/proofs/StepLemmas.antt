-- Taking an entry, playing frames and sending a block keep an engine in step.
use Rattle.std.proofs.Common.{◌≡◌, ℕ, zero, suc, ◌+◌, ◌-◌, ◌≤◌, ◌<◌, Bool, true, false, List, [], ◌∷◌, ◌++◌, length, drop, Option, Some, None, refl, sym, ap, ap₂, ◌∙◌, subst, arith, append_assoc, append-nil, add-zero, length-append, cond, not, nat_le, ◌&&◌}
use Rattle.std.specs.List.{All, filter}
use Rattle.std.specs.Prelude.{option_to_list, ◌==◌, IsTrue}
use Rattle.std.proofs.lemmas.Bool.{eqb-true, eqb-false, le-leb, eq-eqb}
use Rattle.std.proofs.Math.Seq.{drop-append_seam}
use Rattle.std.proofs.lemmas.List.{drop-append-le}
use Rattle.std.proofs.lemmas.List.Elements.{All-cons, All-nil, All-head, All-tail, All-weaker, All-append, filter-append}
use Rattle.sl_base.specs.Sounds.{Sound}
use Rattle.sl_commands.specs.declared.Block.{Block}
use Rattle.sl_commands.specs.declared.Entry.{Entry}
use Rattle.sl_commands.specs.declared.Reply.{Reply}
use Rattle.sl_commands.specs.declared.Command.{Command}
use Rattle.sl_commands.specs.declared.Command.TheVariants.{Down, Up, Hit, Set, SetGlobal, Get, GetGlobal, SaveLoop, SaveSession, Release, Quit}
use Rattle.sl_commands.specs.Entries.{entries_of, last_frame_from, last_frame, may_be_next, are_stamped}
use Rattle.sl_commands.proofs.EntriesLemmas.{are_stamped-push}
use Rattle.looper_rules.specs.Looper.{Looper}
use Rattle.looper_rules.specs.Saves.{Save}
use Rattle.looper_rules.specs.Entries.{is_taken, applied, reply, save}
use Rattle.looper_rules.specs.Frame.{framed}
use Rattle.looper_rules.specs.Run.{RunSoFar, begun, Ran, run, ended}
use Rattle.looper_rules.specs.Cuts.{begun_on, ran_on, joined}
use Rattle.looper_rules.specs.Unanswered.{still_unanswered, unanswered_after, unanswered, answers}
use Rattle.looper_rules.specs.SaveBlocks.{blocks_of_save, blocks_for_all}
use Rattle.run_laws.proofs.Runs.Cuts.{begun-append, run-cut, run-more}
use Rattle.frame_stamp.specs.Journals.{JournalOf, next_seq}
use Rattle.engine_steps.specs.Engines.{EngineOf, Beginning, first_looper, waiting, left, next_block, first_of, left_unanswered, ClearsSent, took, went_on, put_out, sent_of, sent_from, block_sent}
use Rattle.engine_steps.specs.InStep.{SoFar, IsInStep, IsPart, with_taken, with_frames, with_block}
use Rattle.engine_steps.proofs.UnansweredLemmas.{unanswered-one_more, unanswered-more_frames}

ran_same : (o o' : List Sound) (rs rs' : List Reply) (ss ss' : List Save) (l l' : Looper) → o ≡ o' →
    rs ≡ rs' → ss ≡ ss' → l ≡ l' →
    record { output = o; replies = rs; saves = ss; looper = l }
    ≡ (let r : Ran = record { output = o'; replies = rs'; saves = ss'; looper = l' } in r)
ran_same o o' rs rs' ss ss' l l' a b c d = cc

-- a run with one entry more, at its end
run-one_more :
    (es : List Entry) (en : Entry) (input : List Sound) (l : Looper) (r : Ran) (frame : ℕ) →
    frame ≡ length input → frame ≤ en.frame → run es input l ≡ r →
    run (es ++ en ∷ []) input l
    ≡ record {
      output = r.output;
      replies = r.replies ++ option_to_list (reply en r.looper);
      saves =
          r.saves ++ option_to_list (save en r.looper);
      looper = applied frame en r.looper;
    }
run-one_more es en input l r frame is late ran =
    let here : length input ≤ en.frame = omega arith
    in let later : All (λ (e : Entry). length input ≤ e.frame) (en ∷ []) =
    All-cons (λ (e : Entry). length input ≤ e.frame) en [] here
    (All-nil (λ (e : Entry). length input ≤ e.frame))
    in let at : length input + 0 ≡ frame = omega arith
    in run-more es (en ∷ []) input l later
    ∙ ap (λ (q : Ran). ran_on (length input) q (en ∷ []) []) ran
    ∙ ran_same _ _ _ _ _ _ _ _ (append-nil r.output)
    (ap (λ rs. r.replies ++ rs) (append-nil (option_to_list (reply en r.looper))))
    (ap (λ ss. r.saves ++ ss) (append-nil (option_to_list (save en r.looper))))
    (ap (λ n. applied n en r.looper) at)

-- no entry is later than the frames that are done
before_more : (es : List Entry) (en : Entry) (frame : ℕ) → en.frame ≡ frame →
    All (λ (e : Entry). e.frame ≤ frame) es → All (λ (e : Entry). e.frame ≤ frame) (es ++ en ∷ [])
before_more es en frame now before =
    let here : en.frame ≤ frame = omega arith
    in All-append (λ (e : Entry). e.frame ≤ frame) es (en ∷ []) before
    (All-cons (λ (e : Entry). e.frame ≤ frame) en [] here
    (All-nil (λ (e : Entry). e.frame ≤ frame)))

-- the last frame is among them
last_within : (first frame : ℕ) (es : List Entry) → first ≤ frame →
    All (λ (e : Entry). e.frame ≤ frame) es → last_frame_from first es ≤ frame
last_within first frame [] within before = within
last_within first frame (e ∷ es) within before =
    last_within e.frame frame es (All-head (λ (x : Entry). x.frame ≤ frame) e es before)
    (All-tail (λ (x : Entry). x.frame ≤ frame) e es before)

-- a stamped journal has one entry of the moment more
stamped_more : (es : List Entry) (en : Entry) (frame : ℕ) → en.frame ≡ frame →
    All (λ (e : Entry). e.frame ≤ frame) es → en.seq ≡ next_seq en.sender es →
    are_stamped es ≡ true → are_stamped (es ++ en ∷ []) ≡ true
stamped_more es en frame now before next stamped =
    let last : last_frame es ≤ frame = last_within 0 frame es (omega arith) before
    in let here : last_frame es ≤ en.frame = omega arith
    in are_stamped-push es en
    ∙ ap₂ (λ a b. a && b) stamped
    (ap₂ (λ a b. a && b) (le-leb (last_frame es) en.frame here)
    (eq-eqb en.seq (length (entries_of en.sender es)) next))

-- what stays unanswered of two lists
kept-append_in : (command : Command) (xs ys : List Save) →
    still_unanswered command (xs ++ ys) ≡ still_unanswered command xs ++ still_unanswered command ys
kept-append_in (Release target outcome) xs ys =
    filter-append (λ (s : Save). not (answers target s.target)) xs ys
kept-append_in (Down target verb) xs ys = refl
kept-append_in (Up target verb) xs ys = refl
kept-append_in (Hit target verb) xs ys = refl
kept-append_in (Set target control value) xs ys = refl
kept-append_in (SetGlobal control value) xs ys = refl
kept-append_in (Get target control) xs ys = refl
kept-append_in (GetGlobal control) xs ys = refl
kept-append_in (SaveLoop target name) xs ys = refl
kept-append_in (SaveSession name) xs ys = refl
kept-append_in Quit xs ys = refl

kept-append_if : (taken : Bool) (command : Command) (xs ys : List Save) →
    cond taken (still_unanswered command (xs ++ ys)) (xs ++ ys) ≡ cond taken
    (still_unanswered command xs) xs ++ cond taken (still_unanswered command ys) ys
kept-append_if true command xs ys = kept-append_in command xs ys
kept-append_if false command xs ys = refl

pub left_unanswered-append : (en : Entry) (l : Looper) (xs ys : List Save) →
    left_unanswered en l (xs ++ ys) ≡ left_unanswered en l xs ++ left_unanswered en l ys
left_unanswered-append en l xs ys = kept-append_if (is_taken en l) en.command xs ys

-- the saves that wait behind an entry
pub waiting_took : (en : Entry) (e : EngineOf) → ClearsSent en e →
    waiting (took en e) ≡ unanswered_after en e.looper (waiting e)
waiting_took en e clears =
    let made = option_to_list (save en e.looper)
    in sym (append_assoc (left_unanswered en e.looper e.due) e.sending made)
    ∙ ap (λ ss. ss ++ made) (ap (λ ss. left_unanswered en e.looper e.due ++ ss) (sym clears.kept)
    ∙ sym (left_unanswered-append en e.looper e.due e.sending))

-- the blocks of more saves
pub blocks_for_all-append : (xs ys : List Save) →
    blocks_for_all (xs ++ ys) ≡ blocks_for_all xs ++ blocks_for_all ys
blocks_for_all-append [] ys = refl
blocks_for_all-append (x ∷ xs) ys =
    ap (λ bs. blocks_of_save x ++ bs) (blocks_for_all-append xs ys)
    ∙ sym (append_assoc (blocks_of_save x) (blocks_for_all xs) (blocks_for_all ys))

-- what was sent of the first is no more than there is
part_within : (saves : List Save) (part : ℕ) → IsPart saves part →
    part ≤ length (blocks_for_all saves)
part_within [] part is = omega arith
part_within (s ∷ saves) part is = let both =
    length-append (blocks_of_save s) (blocks_for_all saves) in omega arith

-- a save begins with a head
some_blocks : (s : Save) → 0 < length (blocks_of_save s)
some_blocks s = omega arith

pub part_more : (saves : List Save) (part : ℕ) (made : Option Save) → IsPart saves part →
    IsPart (saves ++ option_to_list made) part
part_more [] part None is = is
part_more [] part (Some s) is = let some = some_blocks s in omega arith
part_more (s ∷ saves) part made is = is

pub left_more : (part : ℕ) (saves more : List Save) → IsPart saves part →
    drop part (blocks_for_all (saves ++ more)) ≡ drop part (blocks_for_all saves)
    ++ blocks_for_all more
left_more part saves more is = ap (drop part) (blocks_for_all-append saves more)
    ∙ drop-append-le part (blocks_for_all saves) (blocks_for_all more) (part_within saves part is)

pub took_in_step :
    (b : Beginning) (s : SoFar) (en : Entry) (e : EngineOf) → en.frame ≡ e.frames →
    en.seq ≡ next_seq en.sender e.journal.entries → ClearsSent en e → IsInStep b s e →
    IsInStep b (with_taken (reply en e.looper) (save en e.looper) s) (took en e)
took_in_step b s en e now next clears h =
    let first = first_looper b
    in let made = option_to_list (save en e.looper)
    in let late : length s.input ≤ en.frame = (let is = h.frames in omega arith)
    in let looper : (run e.journal.entries s.input first).looper ≡ e.looper =
    ap (λ (r : Ran). r.looper) h.ran
    in record {
      ran = run-one_more e.journal.entries en s.input first _ e.frames h.frames (omega arith) h.ran;
      frames = h.frames;
      before = before_more e.journal.entries en e.frames now h.before;
      unanswered = waiting_took en e clears
          ∙ ap₂ (λ l saves. unanswered_after en l saves) (sym looper) h.unanswered
          ∙ sym (unanswered-one_more e.journal.entries en s.input first late);
      blocks = blocks_for_all-append s.saves made
          ∙ ap (λ bs. bs ++ blocks_for_all made) h.blocks
          ∙ append_assoc s.sent (left e) (blocks_for_all made)
          ∙ ap (λ bs. s.sent ++ bs) (sym (left_more e.part e.sending made h.part));
      part = part_more e.sending e.part (save en e.looper) h.part;
      quota = h.quota;
      stamped = stamped_more e.journal.entries en e.frames now h.before next h.stamped;
    }

-- frames with no entry among them answer nothing and save nothing
pub nothing_else : (frame : ℕ) (xs : List Sound) (l : Looper) →
    begun frame [] xs l ≡ record {
      output = (begun frame [] xs l).output;
      replies = [];
      saves =
          [];
      left = [];
      looper = (begun frame [] xs l).looper;
    }
nothing_else frame [] l = refl
nothing_else frame (x ∷ xs) l =
    let now = framed frame x l
    in ap (λ (b : RunSoFar). let c : RunSoFar = record b { output = now.output ∷ b.output } in c)
    (nothing_else (frame + 1) xs now.looper)

-- a run with more frames, at its end
run-more_frames :
    (es : List Entry) (xs ys out : List Sound) (l l' : Looper) (r : Ran) →
    All (λ (e : Entry). e.frame ≤ length xs) es → run es xs l ≡ r →
    begun (length xs) [] ys r.looper ≡ record {
      output = out;
      replies = [];
      saves = [];
      left =
          [];
      looper = l';
    } →
    run es (xs ++ ys) l ≡ record {
      output = r.output ++ out;
      replies = r.replies;
      saves =
          r.saves;
      looper = l';
    }
run-more_frames es xs ys out l l' r before ran did =
    ap (λ zs. run zs (xs ++ ys) l) (sym (append-nil es))
    ∙ run-cut es [] xs ys l before (All-nil (λ (e : Entry). length xs ≤ e.frame))
    ∙ ap (λ (q : Ran). ran_on (length xs) q [] ys) ran
    ∙ ap (λ (b : RunSoFar). joined r (ended (length xs + length ys) b)) did
    ∙ ran_same _ _ _ _ _ _ _ _ refl (append-nil r.replies) (append-nil r.saves) refl

pub went_on_in_step : (b : Beginning) (s : SoFar) (xs : List Sound) (e : EngineOf) →
    IsInStep b s e → IsInStep b (with_frames xs (put_out xs e) s) (went_on xs e)
went_on_in_step b s xs e h =
    let first = first_looper b
    in let before : All (λ (en : Entry). en.frame ≤ length s.input) e.journal.entries =
    subst (λ n. All (λ (en : Entry). en.frame ≤ n) e.journal.entries) h.frames h.before
    in let did = subst
    (λ n. begun n [] xs e.looper ≡ record {
      output = put_out xs e;
      replies = [];
      saves = [];
      left = [];
      looper = (went_on xs e).looper;
    }) h.frames (nothing_else e.frames xs e.looper)
    in record {
      ran = run-more_frames e.journal.entries s.input xs (put_out xs e) first (went_on xs e).looper
          _ before h.ran did;
      frames = (let both = length-append s.input xs in let is = h.frames in omega arith);
      before = All-weaker (λ (en : Entry). en.frame ≤ e.frames)
          (λ (en : Entry). en.frame ≤ e.frames + length xs) (λ en at. omega arith) e.journal.entries
          h.before;
      unanswered = h.unanswered
          ∙ sym (unanswered-more_frames e.journal.entries s.input xs first before);
      blocks = h.blocks;
      part = h.part;
      quota = h.quota;
      stamped = h.stamped;
    }

-- the first of what is left, and the rest of it
drop-first : {X : Type 0} (n : ℕ) (xs : List X) → n < length xs →
    drop n xs ≡ option_to_list (first_of (drop n xs)) ++ drop (suc n) xs
drop-first n [] less = absurd (omega arith)
drop-first zero (x ∷ xs) less = refl
drop-first (suc n) (x ∷ xs) less = drop-first n xs (omega arith)

-- with no save whose blocks are still sent none is left
drop-none : (part : ℕ) → drop part (blocks_for_all []) ≡ []
drop-none zero = refl
drop-none (suc part) = refl

zero_is_part : (saves : List Save) → IsPart saves 0
zero_is_part [] = refl
zero_is_part (s ∷ saves) = some_blocks s

-- one block more of the first save, by whether it was its last
pub record Sends (before e : EngineOf) : Type 0 where
  pub waiting : waiting e ≡ waiting before
  pub left : left before ≡ option_to_list (next_block before) ++ left e
  pub part : IsPart e.sending e.part

-- an engine that is sending these saves
abbrev pub sending_of : EngineOf → List Save → EngineOf
sending_of e saves = record e { sending = saves }

sends_by : (last : Bool) (s : Save) (saves : List Save) (e : EngineOf) →
    (e.part + 1 == length (blocks_of_save s)) ≡ last → e.part < length (blocks_of_save s) →
    Sends (sending_of e (s ∷ saves)) (sent_of last s saves (sending_of e (s ∷ saves)))
sends_by true s saves e is less =
    let all : e.part + 1 ≡ length (blocks_of_save s) =
    eqb-true (e.part + 1) (length (blocks_of_save s)) is
    in let both = length-append (blocks_of_save s) (blocks_for_all saves)
    in let same : suc e.part ≡ length (blocks_of_save s) = omega arith
    in let blocks = blocks_for_all (s ∷ saves)
    in let rest : drop (suc e.part) blocks ≡ blocks_for_all saves =
    ap (λ n. drop n blocks) same ∙ drop-append_seam (blocks_of_save s) (blocks_for_all saves)
    in record {
      waiting = append_assoc e.due (s ∷ []) saves;
      left = drop-first e.part blocks (omega arith)
          ∙ ap (λ bs. option_to_list (first_of (drop e.part blocks)) ++ bs) rest;
      part = zero_is_part saves;
    }
sends_by false s saves e is less =
    let more : e.part + 1 ≡ length (blocks_of_save s) →
    ⊥ = eqb-false (e.part + 1) (length (blocks_of_save s)) is
    in let both = length-append (blocks_of_save s) (blocks_for_all saves)
    in let same : suc e.part ≡ e.part + 1 = omega arith
    in let blocks = blocks_for_all (s ∷ saves)
    in record {
      waiting = refl;
      left = drop-first e.part blocks (omega arith)
          ∙ ap (λ n. option_to_list (first_of (drop e.part blocks)) ++ drop n blocks) same;
      part = (let within : e.part + 1 < length (blocks_of_save s) = omega arith in within);
    }

pub sends : (saves : List Save) (e : EngineOf) → IsPart saves e.part →
    Sends (sending_of e saves) (sent_from saves (sending_of e saves))
sends [] e is =
    record {
      waiting = refl;
      left = ap (λ bs. option_to_list (first_of bs) ++ drop e.part (blocks_for_all []))
          (sym (drop-none e.part));
      part = is;
    }
sends (s ∷ saves) e is = sends_by (e.part + 1 == length (blocks_of_save s)) s saves e refl is

in_step_by : (b : Beginning) (s : SoFar) (e next : EngineOf) → next.looper ≡ e.looper →
    next.journal ≡ e.journal → next.frames ≡ e.frames → Sends e next → IsInStep b s e →
    IsInStep b (with_block (next_block e) s) next
in_step_by b s e next looper journal frames now h =
    record {
      ran = ap (λ (j : JournalOf). run j.entries s.input (first_looper b)) journal
          ∙ h.ran
          ∙ ap (λ (l : Looper). let r : Ran =
          record { output = s.output; replies = s.replies; saves = s.saves; looper = l } in r)
          (sym looper);
      frames = frames ∙ h.frames;
      before = subst (λ n. All (λ (en : Entry). en.frame ≤ n) next.journal.entries) (sym frames)
          (subst (λ (j : JournalOf). All (λ (en : Entry). en.frame ≤ e.frames) j.entries)
          (sym journal) h.before);
      unanswered = now.waiting ∙ h.unanswered
          ∙ sym (ap (λ (j : JournalOf). unanswered j.entries s.input (first_looper b)) journal);
      blocks = h.blocks ∙ ap (λ bs. s.sent ++ bs) now.left
          ∙ sym (append_assoc s.sent (option_to_list (next_block e)) (left next));
      part = now.part;
      quota = ap (λ (j : JournalOf). j.quota) journal ∙ h.quota;
      stamped = subst (λ (j : JournalOf). IsTrue (are_stamped j.entries)) (sym journal) h.stamped;
    }

sent_by : (last : Bool) (b : Beginning) (s : SoFar) (x : Save) (saves : List Save) (e : EngineOf) →
    (e.part + 1 == length (blocks_of_save x)) ≡ last →
    let now = sending_of e (x ∷ saves) in IsInStep b s now →
    IsInStep b (with_block (next_block now) s) (sent_of last x saves now)
sent_by true b s x saves e is h =
    in_step_by b s (sending_of e (x ∷ saves)) _ refl refl refl (sends_by true x saves e is h.part) h
sent_by false b s x saves e is h = in_step_by b s (sending_of e (x ∷ saves)) _ refl refl refl
    (sends_by false x saves e is h.part) h

sent_in_step : (b : Beginning) (s : SoFar) (saves : List Save) (e : EngineOf) →
    let now = sending_of e saves in IsInStep b s now →
    IsInStep b (with_block (next_block now) s) (sent_from saves now)
sent_in_step b s [] e h =
    in_step_by b s (sending_of e []) (sending_of e []) refl refl refl (sends [] e h.part) h
sent_in_step b s (x ∷ saves) e h =
    sent_by (e.part + 1 == length (blocks_of_save x)) b s x saves e refl h

pub block_sent_in_step : (b : Beginning) (s : SoFar) (e : EngineOf) → IsInStep b s e →
    IsInStep b (with_block (next_block e) s) (block_sent e)
block_sent_in_step b s e h = sent_in_step b s e.sending e h

-- frames one behind the other
begun-then : (frame : ℕ) (xs ys : List Sound) (l : Looper) →
    begun frame [] (xs ++ ys) l
    ≡ (let first = begun frame [] xs l in let next = begun (frame + length xs) [] ys first.looper in
    record {
      output = first.output ++ next.output;
      replies = [];
      saves = [];
      left = [];
      looper =
          next.looper;
    })
begun-then frame xs ys l =
    let first = begun frame [] xs l
    in let next = begun (frame + length xs) [] ys first.looper
    in begun-append frame [] xs ys l
    ∙ ap (λ (b : RunSoFar). begun_on (frame + length xs) b ys) (nothing_else frame xs l)
    ∙ ap (λ (b : RunSoFar). let c : RunSoFar =
    record {
      output = first.output ++ b.output;
      replies = b.replies;
      saves = b.saves;
      left =
          b.left;
      looper = b.looper;
    } in c) (nothing_else (frame + length xs) ys first.looper)

pub went_on-append : (xs ys : List Sound) (e : EngineOf) →
    went_on (xs ++ ys) e ≡ went_on ys (went_on xs e)
went_on-append xs ys e =
    let looper = ap (λ (b : RunSoFar). b.looper) (begun-then e.frames xs ys e.looper)
    in let frames : e.frames + length (xs ++ ys) ≡ e.frames + length xs + length ys =
    (let both = length-append xs ys in omega arith)
    in ap₂ (λ (l : Looper) n. let d : EngineOf = record e { looper = l; frames = n } in d) looper
    frames

pub put_out-append : (xs ys : List Sound) (e : EngineOf) →
    put_out (xs ++ ys) e ≡ put_out xs e ++ put_out ys (went_on xs e)
put_out-append xs ys e = ap (λ (b : RunSoFar). b.output) (begun-then e.frames xs ys e.looper)
