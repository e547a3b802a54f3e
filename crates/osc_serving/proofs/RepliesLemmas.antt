-- Replies that are taken and told, one after another.
use Rattle.std.proofs.Common.{◌≡◌, ℕ, true, false, [], ◌∷◌, ◌++◌, Some, None, refl, sym, ◌∙◌, subst, append-nil, arith}
use Rattle.sl_commands.specs.declared.reply.Reply.{Reply}
use Rattle.event_rings.specs.Ends.{TakeEnd, SameTakeRing, IsEmpty}
use Rattle.live_ports.specs.Links.{LinkSeen}
use Rattle.senders.specs.Senders.{OscSenderOf}
use Rattle.reply_sending.specs.Posting.{PostedReply}
use Rattle.osc_serving.specs.Serving.{OscAt, osc_at, OscWent}
use Rattle.osc_serving.specs.Turns.{TookReplies, TookAll}
use Rattle.osc_serving.proofs.WentLemmas.{went_joined, went_took, went_reply, same_take}

-- no reply was taken
pub took_none : (x : OscAt) → TookReplies [] x x
took_none x =
    record {
      told = [];
      went = went_took [] x.link x.sender x.replies x.replies x.over x.over (same_take x.replies)
          (sym (append-nil x.replies.taken)) (same_take x.over);
      receives = refl;
      ended = refl;
      nones = omega arith;
      over = refl;
    }

-- all that were taken were told
pub all_told : (x y : OscAt) (p : TookReplies [] x y) → OscWent [] [] p.told p.told x y
all_told x y p =
    subst (λ ks. OscWent [] [] p.told ks x y) (append-nil p.told) p.went

-- one more was told
pub took_reply : (x : OscAt) (l' l'' : LinkSeen) (s' s'' : OscSenderOf) (r' r'' : TakeEnd Reply)
    (o' : TakeEnd ℕ) (reply : Reply) → TookReplies [] x (osc_at l' s' r' o') →
    SameTakeRing r' r'' → r''.taken ≡ r'.taken ++ reply ∷ [] → r''.nones ≡ r'.nones →
    PostedReply reply l' l'' s' s'' true → TookReplies [] x (osc_at l'' s'' r'' o')
took_reply x l' l'' s' s'' r' r'' o' reply p same taken nones posted =
    let later = p.nones in
    record {
      told = p.told ++ reply ∷ [];
      went = subst (λ ks. OscWent [] [] (p.told ++ reply ∷ []) ks x (osc_at l'' s'' r'' o'))
          (sym (append-nil (p.told ++ reply ∷ [])))
          (went_joined [] [] [] p.told (reply ∷ []) (reply ∷ []) x (osc_at l' s' r' o')
          (osc_at l'' s'' r'' o') (all_told x (osc_at l' s' r' o') p)
          (went_reply l' l'' s' s'' r' r'' o' reply posted.0 same taken posted.1 posted.2));
      receives = posted.2.receiving.receives ∙ p.receives;
      ended = posted.2.receiving.ended ∙ p.ended;
      nones = omega arith;
      over = p.over;
    }

-- a take found none
pub took_all : (x : OscAt) (l' : LinkSeen) (s' : OscSenderOf) (r' r'' : TakeEnd Reply)
    (o' : TakeEnd ℕ) → TookReplies [] x (osc_at l' s' r' o') → SameTakeRing r' r'' →
    IsEmpty r' r'' → TookAll x (osc_at l' s' r'' o') None
took_all x l' s' r' r'' o' p same empty =
    let later = p.nones in
    let counted = empty.counted in (
      record {
        told = p.told;
        went = subst (λ ts. OscWent [] [] ts (p.told ++ []) x (osc_at l' s' r'' o'))
            (append-nil p.told)
            (went_joined [] [] [] p.told [] [] x (osc_at l' s' r' o') (osc_at l' s' r'' o')
            (all_told x (osc_at l' s' r' o') p)
            (went_took [] l' s' r' r'' o' o' same (empty.taken ∙ sym (append-nil r'.taken))
            (same_take o')));
        receives = p.receives;
        ended = p.ended;
        nones = omega arith;
        over = p.over;
      },
      omega arith,
    )

-- one had no return address
pub took_strange : (x : OscAt) (l' l'' : LinkSeen) (s' s'' : OscSenderOf)
    (r' r'' : TakeEnd Reply) (o' : TakeEnd ℕ) (reply : Reply) →
    TookReplies [] x (osc_at l' s' r' o') → SameTakeRing r' r'' →
    r''.taken ≡ r'.taken ++ reply ∷ [] → r''.nones ≡ r'.nones →
    PostedReply reply l' l'' s' s'' false → TookAll x (osc_at l'' s'' r'' o') (Some reply)
took_strange x l' l'' s' s'' r' r'' o' reply p same taken nones posted =
    let later = p.nones in
    subst (λ (l : LinkSeen). TookAll x (osc_at l s'' r'' o') (Some reply)) (sym posted.1)
    (subst (λ (s : OscSenderOf). TookAll x (osc_at l' s r'' o') (Some reply)) (sym posted.2) (
      record {
        told = p.told;
        went = subst (λ ts. OscWent [] [] ts (p.told ++ reply ∷ []) x (osc_at l' s' r'' o'))
            (append-nil p.told)
            (went_joined [] [] [] p.told [] (reply ∷ []) x (osc_at l' s' r' o')
            (osc_at l' s' r'' o') (all_told x (osc_at l' s' r' o') p)
            (went_took (reply ∷ []) l' s' r' r'' o' o' same taken (same_take o')));
        receives = p.receives;
        ended = p.ended;
        nones = omega arith;
        over = p.over;
      },
      posted.0,
    ))
