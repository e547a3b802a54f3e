-- Replies that are told, and answers to pings.
use Rattle.std.proofs.Common.{◌≡◌, ℕ, Bool, true, false, List, [], ◌∷◌, ◌++◌, length, map, Option, Some, None, refl, sym, ap, ap₂, ◌∙◌, subst, append_assoc, zero, suc}
use Rattle.std.specs.Prelude.{slice_get, ◌==◌, if◌then◌else◌}
use Rattle.sl_commands.specs.declared.reply.Reply.{Reply}
use Rattle.osc_paths.specs.declared.request.ReturnTo.{ReturnTo}
use Rattle.senders.specs.declared.accepted.Accepted.{Accepted}
use Rattle.senders.specs.declared.decision.Decision.{Decision}
use Rattle.senders.specs.Commands.{has_quit}
use Rattle.senders.specs.Tallies.{TallyOf}
use Rattle.senders.specs.Hearing.{Input, faulty, wrong, pings, plays, Heard, input_in, decision_on, tally_after, decisions_in, Hears, command_decision, is_used_up}
use Rattle.live_ports.specs.Links.{Packet}
use Rattle.reply_sending.specs.Answers.{answer_of, return_for, AreTold, pong_on, pongs_for, pong_after, pongs_after}

two_ways : (o : Option ReturnTo) (to : ReturnTo) → o ≡ None → o ≡ Some to → ⊥
two_ways o to a b = (cc)

none_some : (to : ReturnTo) → answer_of None ≡ Some to → ⊥
none_some to e = two_ways (answer_of None) to refl e

get_grown : (xs more : List Accepted) (i : ℕ) (to : ReturnTo) →
    answer_of (slice_get xs i) ≡ Some to → answer_of (slice_get (xs ++ more) i) ≡ Some to
get_grown [] more i to e = elim (none_some to e) [ ]
get_grown (x ∷ xs) more zero to e = e
get_grown (x ∷ xs) more (suc i) to e = get_grown xs more i to e

return_by : (own : Bool) (xs more : List Accepted) (i : ℕ) (to : ReturnTo) →
    (if own then answer_of (slice_get xs i) else None) ≡ Some to →
    (if own then answer_of (slice_get (xs ++ more) i) else None) ≡ Some to
return_by true xs more i to e = get_grown xs more i to e
return_by false xs more i to e = e

-- a return address stays as more commands are accepted
pub return_grown : (xs more : List Accepted) (r : Reply) (to : ReturnTo) →
    return_for xs r ≡ Some to → return_for (xs ++ more) r ≡ Some to
return_grown xs more r to e = return_by (r.sender == 0) xs more r.seq to e

pub told_grown : (xs more : List Accepted) (rs : List Reply) (ps : List Packet) →
    AreTold xs rs ps → AreTold (xs ++ more) rs ps
told_grown xs more [] ps e = e
told_grown xs more (r ∷ rs) ps e =
    (e.0, e.1, return_grown xs more r e.0 e.2, e.3, told_grown xs more rs e.1 e.4)

pub told_joined : (xs : List Accepted) (rs rs' : List Reply) (ps ps' : List Packet) →
    AreTold xs rs ps → AreTold xs rs' ps' → AreTold xs (rs ++ rs') (ps ++ ps')
told_joined xs [] rs' ps ps' e f =
    subst (λ l. AreTold xs rs' (l ++ ps')) (sym e) f
told_joined xs (r ∷ rs) rs' ps ps' e f =
    (e.0, e.1 ++ ps', e.2, ap (λ l. l ++ ps') e.3, told_joined xs rs rs' e.1 ps' e.4 f)

pub pongs_for-append : (loops : ℕ) (xs ys : List Input) →
    pongs_for loops (xs ++ ys) ≡ pongs_for loops xs ++ pongs_for loops ys
pongs_for-append loops [] ys = refl
pongs_for-append loops (x ∷ xs) ys =
    ap (λ l. pong_on loops x ++ l) (pongs_for-append loops xs ys)
    ∙ sym (append_assoc (pong_on loops x) (pongs_for loops xs) (pongs_for loops ys))

pub pongs_after-append : (loops : ℕ) (xs ys : List Decision) →
    pongs_after loops (xs ++ ys) ≡ pongs_after loops xs ++ pongs_after loops ys
pongs_after-append loops [] ys = refl
pongs_after-append loops (x ∷ xs) ys =
    ap (λ l. pong_after loops x ++ l) (pongs_after-append loops xs ys)
    ∙ sym (append_assoc (pong_after loops x) (pongs_after loops xs) (pongs_after loops ys))

pong_of_command : (loops : ℕ) (q u f : Bool) (n : ℕ) →
    pong_after loops (command_decision q u f n) ≡ []
pong_of_command loops true u f n = refl
pong_of_command loops false true f n = refl
pong_of_command loops false false true n = refl
pong_of_command loops false false false n = refl

pong_of_one : (loops : ℕ) (full : Bool) (i : Input) (t : TallyOf) →
    pong_after loops (decision_on full i t) ≡ pong_on loops i
pong_of_one loops full (faulty fault) t = refl
pong_of_one loops full (wrong fault) t = refl
pong_of_one loops full (pings to) t = refl
pong_of_one loops full (plays c a) t =
    pong_of_command loops (has_quit t.accepted) (is_used_up t) full (length t.accepted)

pongs_behind : (loops : ℕ) (hs : List Heard) (t : TallyOf) →
    pongs_after loops (decisions_in hs t) ≡ pongs_for loops (map input_in hs)
pongs_behind loops [] t = refl
pongs_behind loops (h ∷ hs) t =
    ap₂ (λ u v. u ++ v) (pong_of_one loops h.full h.input t)
    (pongs_behind loops hs (tally_after h.full h.input t))

-- the answers to the pings that were heard are those to the decisions
pub hears_pongs : (loops capacity : ℕ) (inputs : List Input) (t t' : TallyOf)
    (ds : List Decision) → Hears capacity inputs t t' ds →
    pongs_after loops ds ≡ pongs_for loops inputs
hears_pongs loops capacity inputs t t' ds h =
    ap (pongs_after loops) h.decided_is ∙ pongs_behind loops h.heard t
    ∙ ap (pongs_for loops) h.inputs_are
