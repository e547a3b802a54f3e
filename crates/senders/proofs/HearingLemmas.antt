-- Inputs that are heard one after another.
use Rattle.std.proofs.Common.{◌≡◌, ◌≤◌, ◌<◌, ℕ, ◌+◌, Bool, true, false, List, [], ◌∷◌, ◌++◌, length, map, Option, Some, None, Result, Ok, Err, IsTrue, refl, sym, ap, ap₂, ◌∙◌, subst, append_assoc, append-nil, arith, length-append}
use Rattle.std.specs.Prelude.{◌||◌, nat_le}
use Rattle.std.proofs.lemmas.Bool.{le-leb, lt-leb}
use Rattle.std.proofs.lemmas.List.{map-append, length-map}
use Rattle.event_rings.specs.Ends.{PutEnd, SamePutRing, IsFull}
use Rattle.sl_base.specs.Counting.{raised}
use Rattle.sl_base.specs.declared.addr.Addr.{Addr}
use Rattle.sl_commands.specs.declared.command.Command.{Command}
use Rattle.osc_paths.specs.declared.request.ReturnTo.{ReturnTo}
use Rattle.senders.specs.declared.accepted.Accepted.{Accepted}
use Rattle.senders.specs.declared.decision.Decision.{Decision}
use Rattle.senders.specs.declared.decision.Decision.TheVariants as decisions
use Rattle.senders.specs.Commands.{accepted, command_in, commands_in, has_quit, is_quit, IsGood, AreGood}
use Rattle.senders.specs.Goods.{IsGoodInput, AreGoodInputs}
use Rattle.senders.specs.Tallies.{TallyOf, with_ended, with_session_full, with_ring_full, with_accepted, IsTally}
use Rattle.senders.specs.Hearing.{Input, plays, pings, faulty, wrong, Heard, input_in, decision_on, tally_after, tally_behind, decisions_in, AreFull, Hears, is_used_up, command_decision, after_command}
use Rattle.senders.specs.Senders.{AreInStep}

no_both : (b : Bool) → b ≡ false → b ≡ true → ⊥
no_both b p q = (cc)

-- what isn't true gives anything
pub no_full : (n m : ℕ) → IsTrue false → n ≤ m
no_full n m e = elim (no_both false refl e) [ ]

-- one input is heard
pub hears_one : (capacity : ℕ) (full : Bool) (input : Input) (t t' : TallyOf) (d : Decision) →
    d ≡ decision_on full input t → t' ≡ tally_after full input t →
    (IsTrue full → capacity ≤ length t.accepted) →
    Hears capacity (input ∷ []) t t' (d ∷ [])
hears_one capacity full input t t' d decided after may =
    record {
      heard = record { input = input; full = full } ∷ [];
      inputs_are = refl;
      decided_is = ap (λ (x : Decision). x ∷ []) decided;
      tally_is = after;
      fulls = (may, tt);
    }

tally_behind-append : (xs ys : List Heard) (t : TallyOf) →
    tally_behind (xs ++ ys) t ≡ tally_behind ys (tally_behind xs t)
tally_behind-append [] ys t = refl
tally_behind-append (x ∷ xs) ys t = tally_behind-append xs ys (tally_after x.full x.input t)

decisions_in-append : (xs ys : List Heard) (t : TallyOf) →
    decisions_in (xs ++ ys) t ≡ decisions_in xs t ++ decisions_in ys (tally_behind xs t)
decisions_in-append [] ys t = refl
decisions_in-append (x ∷ xs) ys t =
    ap (λ (l : List Decision). decision_on x.full x.input t ∷ l)
    (decisions_in-append xs ys (tally_after x.full x.input t))

full-append : (capacity : ℕ) (xs ys : List Heard) (t : TallyOf) → AreFull capacity xs t →
    AreFull capacity ys (tally_behind xs t) → AreFull capacity (xs ++ ys) t
full-append capacity [] ys t p q = q
full-append capacity (x ∷ xs) ys t p q =
    (p.0, full-append capacity xs ys (tally_after x.full x.input t) p.1 q)

-- inputs are heard behind others
pub hears_joined : (capacity : ℕ) (xs ys : List Input) (t t' t'' : TallyOf)
    (ds es : List Decision) → Hears capacity xs t t' ds → Hears capacity ys t' t'' es →
    Hears capacity (xs ++ ys) t t'' (ds ++ es)
hears_joined capacity xs ys t t' t'' ds es h k =
    let same = h.tally_is in
    record {
      heard = h.heard ++ k.heard;
      inputs_are = map-append input_in h.heard k.heard
          ∙ ap₂ (λ u v. u ++ v) h.inputs_are k.inputs_are;
      decided_is = ap₂ (λ u v. u ++ v) h.decided_is
          (k.decided_is ∙ ap (decisions_in k.heard) same)
          ∙ sym (decisions_in-append h.heard k.heard t);
      tally_is = k.tally_is ∙ ap (tally_behind k.heard) same
          ∙ sym (tally_behind-append h.heard k.heard t);
      fulls = full-append capacity h.heard k.heard t h.fulls
          (subst (AreFull capacity k.heard) same k.fulls);
    }

-- a command behind a quit
pub hears_ended : (capacity : ℕ) (c : Command) (a : Option ReturnTo) (t t' : TallyOf) →
    has_quit t.accepted ≡ true → t' ≡ with_ended t →
    Hears capacity (plays c a ∷ []) t t' (decisions.Ended ∷ [])
hears_ended capacity c a t t' quit after =
    hears_one capacity false (plays c a) t t' decisions.Ended
    (sym (ap (λ q. command_decision q (is_used_up t) false (length t.accepted)) quit))
    (after ∙ sym (ap (λ q. after_command q (is_used_up t) false c a t) quit))
    (no_full capacity (length t.accepted))

-- a command when the quota is used up
pub hears_used_up : (capacity : ℕ) (c : Command) (a : Option ReturnTo) (t t' : TallyOf) →
    has_quit t.accepted ≡ false → is_used_up t ≡ true → t' ≡ with_session_full t →
    Hears capacity (plays c a ∷ []) t t' (decisions.SessionFull ∷ [])
hears_used_up capacity c a t t' quit used after =
    hears_one capacity false (plays c a) t t' decisions.SessionFull
    (sym (ap₂ (λ q u. command_decision q u false (length t.accepted)) quit used))
    (after ∙ sym (ap₂ (λ q u. after_command q u false c a t) quit used))
    (no_full capacity (length t.accepted))

-- a command that met a full ring
pub hears_full : (capacity : ℕ) (c : Command) (a : Option ReturnTo) (t t' : TallyOf) →
    has_quit t.accepted ≡ false → is_used_up t ≡ false → t' ≡ with_ring_full t →
    capacity ≤ length t.accepted →
    Hears capacity (plays c a ∷ []) t t' (decisions.RingFull ∷ [])
hears_full capacity c a t t' quit used after many =
    hears_one capacity true (plays c a) t t' decisions.RingFull
    (sym (ap₂ (λ q u. command_decision q u true (length t.accepted)) quit used))
    (after ∙ sym (ap₂ (λ q u. after_command q u true c a t) quit used))
    (λ _. many)

-- a command that is accepted
pub hears_accepted : (capacity : ℕ) (c : Command) (a : Option ReturnTo) (t t' : TallyOf) (n : ℕ) →
    has_quit t.accepted ≡ false → is_used_up t ≡ false →
    t' ≡ with_accepted (accepted c a) t → n ≡ length t.accepted →
    Hears capacity (plays c a ∷ []) t t' (decisions.Accepted n ∷ [])
hears_accepted capacity c a t t' n quit used after number =
    hears_one capacity false (plays c a) t t' (decisions.Accepted n)
    (ap decisions.Accepted number
    ∙ sym (ap₂ (λ q u. command_decision q u false (length t.accepted)) quit used))
    (after ∙ sym (ap₂ (λ q u. after_command q u false c a t) quit used))
    (no_full capacity (length t.accepted))

-- the account and the ring stay in step

same_length : (xs : List Accepted) → length (commands_in xs) ≡ length xs
same_length xs = simp length-map

-- a ring in step that was full has sent as many as it holds
pub full_is_many : (t : TallyOf) (r r' : PutEnd Command) → IsFull r r' → AreInStep t r →
    r.capacity ≤ length t.accepted
full_is_many t r r' full s =
    let count : length r.sent ≡ length t.accepted =
    ap length s.sent ∙ same_length t.accepted in
    let many = full.many in
    omega arith

or_last : (x q y : Bool) → (x || (q || y)) ≡ ((x || q) || y)
or_last true q y = refl
or_last false q y = refl

or_none : (y : Bool) → (y || false) ≡ y
or_none true = refl
or_none false = refl

has_quit-append : (xs : List Accepted) (c : Command) (a : Option ReturnTo) →
    has_quit (xs ++ accepted c a ∷ []) ≡ (has_quit xs || is_quit c)
has_quit-append [] c a = or_none (is_quit c)
has_quit-append (x ∷ xs) c a =
    ap (λ q. is_quit x.command || q) (has_quit-append xs c a)
    ∙ or_last (is_quit x.command) (has_quit xs) (is_quit c)

-- one more command is accepted
pub tally_accepts : (t : TallyOf) (quit quit' : Bool) (room room' last : ℕ) (c : Command)
    (a : Option ReturnTo) → IsTally t quit room last → length t.accepted < t.quota →
    quit' ≡ (quit || is_quit c) → room' ≡ room →
    IsTally (with_accepted (accepted c a) t) quit' room' last
tally_accepts t quit quit' room room' last c a h fits or same =
    let longer = length-append t.accepted (accepted c a ∷ []) in
    record {
      within = omega arith;
      reserved = subst (λ n. t.quota ≤ n) (sym same) h.reserved;
      small = h.small;
      quit_is = or ∙ ap (λ q. q || is_quit c) h.quit_is ∙ sym (has_quit-append t.accepted c a);
      last_is = h.last_is;
    }

-- whatever is accepted is good

good_push : (sender loops : ℕ) (xs : List Accepted) (x : Accepted) → AreGood sender loops xs →
    IsGood sender loops x → AreGood sender loops (xs ++ x ∷ [])
good_push sender loops [] x all one = (one, tt)
good_push sender loops (y ∷ xs) x all one = (all.0, good_push sender loops xs x all.1 one)

good_after : (sender loops : ℕ) (q u f : Bool) (c : Command) (a : Option ReturnTo) (t : TallyOf) →
    IsGood sender loops (accepted c a) → AreGood sender loops t.accepted →
    AreGood sender loops (after_command q u f c a t).accepted
good_after sender loops true u f c a t one all = all
good_after sender loops false true f c a t one all = all
good_after sender loops false false true c a t one all = all
good_after sender loops false false false c a t one all =
    good_push sender loops t.accepted (accepted c a) all one

good_on : (sender loops : ℕ) (full : Bool) (i : Input) (t : TallyOf) → IsGoodInput sender loops i →
    AreGood sender loops t.accepted → AreGood sender loops (tally_after full i t).accepted
good_on sender loops full (faulty fault) t one all = all
good_on sender loops full (wrong fault) t one all = all
good_on sender loops full (pings to) t one all = all
good_on sender loops full (plays c a) t one all =
    good_after sender loops (has_quit t.accepted) (is_used_up t) full c a t one all

good_behind : (sender loops : ℕ) (hs : List Heard) (t : TallyOf) →
    AreGoodInputs sender loops (map input_in hs) → AreGood sender loops t.accepted →
    AreGood sender loops (tally_behind hs t).accepted
good_behind sender loops [] t each all = all
good_behind sender loops (h ∷ hs) t each all =
    good_behind sender loops hs (tally_after h.full h.input t) each.1
    (good_on sender loops h.full h.input t each.0 all)

pub hears_good : (sender loops capacity : ℕ) (inputs : List Input) (t t' : TallyOf)
    (ds : List Decision) → Hears capacity inputs t t' ds → AreGoodInputs sender loops inputs →
    AreGood sender loops t.accepted → AreGood sender loops t'.accepted
hears_good sender loops capacity inputs t t' ds h each all =
    subst (λ (u : TallyOf). AreGood sender loops u.accepted) (sym h.tally_is)
    (good_behind sender loops h.heard t
    (subst (AreGoodInputs sender loops) (sym h.inputs_are) each) all)

pub hears_good_one : (sender loops capacity : ℕ) (c : Command) (a : Option ReturnTo)
    (t t' : TallyOf) (ds : List Decision) → Hears capacity (plays c a ∷ []) t t' ds →
    IsGood sender loops (accepted c a) → AreGood sender loops t.accepted →
    AreGood sender loops t'.accepted
hears_good_one sender loops capacity c a t t' ds h one all =
    hears_good sender loops capacity (plays c a ∷ []) t t' ds h (one, tt) all

-- accepted only grows

pub record Grew (old new : List Accepted) : Type 0 where
  pub more : List Accepted
  pub is : new ≡ old ++ more

grew_after : (q u f : Bool) (c : Command) (a : Option ReturnTo) (t : TallyOf) →
    Grew t.accepted (after_command q u f c a t).accepted
grew_after true u f c a t = record { more = []; is = sym (append-nil t.accepted) }
grew_after false true f c a t = record { more = []; is = sym (append-nil t.accepted) }
grew_after false false true c a t = record { more = []; is = sym (append-nil t.accepted) }
grew_after false false false c a t = record { more = accepted c a ∷ []; is = refl }

grew_on : (full : Bool) (i : Input) (t : TallyOf) →
    Grew t.accepted (tally_after full i t).accepted
grew_on full (faulty fault) t = record { more = []; is = sym (append-nil t.accepted) }
grew_on full (wrong fault) t = record { more = []; is = sym (append-nil t.accepted) }
grew_on full (pings to) t = record { more = []; is = sym (append-nil t.accepted) }
grew_on full (plays c a) t = grew_after (has_quit t.accepted) (is_used_up t) full c a t

pub grew_joined : (xs ys zs : List Accepted) → Grew xs ys → Grew ys zs → Grew xs zs
grew_joined xs ys zs g h =
    record {
      more = g.more ++ h.more;
      is = h.is ∙ ap (λ l. l ++ h.more) g.is ∙ append_assoc xs g.more h.more;
    }

grew_behind : (hs : List Heard) (t : TallyOf) → Grew t.accepted (tally_behind hs t).accepted
grew_behind [] t = record { more = []; is = sym (append-nil t.accepted) }
grew_behind (h ∷ hs) t =
    let u : TallyOf = tally_after h.full h.input t in
    grew_joined t.accepted u.accepted (tally_behind hs u).accepted (grew_on h.full h.input t)
    (grew_behind hs u)

-- the inputs may be written otherwise
pub hears_as : (capacity : ℕ) (xs ys : List Input) (t t' : TallyOf) (ds : List Decision) →
    ys ≡ xs → Hears capacity xs t t' ds → Hears capacity ys t t' ds
hears_as capacity xs ys t t' ds same h =
    subst (λ l. Hears capacity l t t' ds) (sym same) h

-- the test on the quota
pub le_true : (a b : ℕ) → a ≤ b → nat_le a b ≡ true
le_true a b p = le-leb a b p

pub le_false : (a b : ℕ) → b < a → nat_le a b ≡ false
le_false a b p = lt-leb a b p
