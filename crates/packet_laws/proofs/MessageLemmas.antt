-- A message has no fault before the first; and what begins as a message is no bundle.
use Rattle.std.proofs.Common.{◌≡◌, ⊎_elim, ◌⊎◌, inl, inr, ℕ, ◌+◌, ◌-◌, ◌≤◌, ◌<◌, true, false, List, [], ◌∷◌, ◌++◌, length, take, Result, Ok, Err, refl, sym, ap, ◌∙◌, subst, arith, append_assoc, length-append, length-take, if◌then◌else◌, replicate, eqb-true}
use Rattle.std.proofs.lemmas.Slice.Eq.{bytes_eq-Decides}
use Rattle.std.proofs.lemmas.List.{take-take}
use Rattle.osc_reader.specs.declared.PacketKind.TheVariants as kinds
use Rattle.osc_reader.specs.declared.PacketFault.{PacketFault}
use Rattle.osc_reader.specs.declared.Arg.{Arg}
use Rattle.osc_reader.specs.declared.Message.{Message}
use Rattle.std.specs.Str.{bytes_eq}
use Rattle.osc_reader.specs.Strings.{zeros_behind}
use Rattle.osc_reader.specs.Grammar.{bundle_head}
use Rattle.osc_reader.specs.Places.{fault_at, ◌>>=◌}
use Rattle.osc_reader.specs.Reading.{begins_with, is_nothing, string_at, address_at, tags_at, arg_at, args_at, message_at, single_at, is_bundle}
use Rattle.osc_reader.proofs.FieldLemmas.{bind_ok, guard_ok, string_takes}
use Rattle.packet_laws.proofs.GoodLemmas.{bind_err, Good, at_front, same_good, then_good}
use Rattle.packet_laws.proofs.FieldLemmas.{good_front, address_field, tags_field, arg_field}

-- one step behind two others
pub bind_twice : {A B C : Type 0} (read : Result A PacketFault) (next : A → Result B PacketFault)
    (last : B → Result C PacketFault) →
    ((read >>= next) >>= last) ≡ (read >>= λ x. next x >>= last)
bind_twice (Ok x) next last = refl
bind_twice (Err fault) next last = refl

module _ (end : ℕ) where
  -- all arguments, and what is made of them and of what is left
  args_good : {B : Type 0} (tags : List ℕ) (last : List Arg × List ℕ → Result B PacketFault) →
      ((args : List Arg) → Good end (λ left. last (args, left))) →
      Good end (λ bytes. args_at tags end bytes >>= last)
  unfolding args_at
  args_good [] last ends = ends []
  args_good {B = B} (tag ∷ tags) last ends =
      same_good end _ _
      (λ bytes. bind_twice (arg_at tag end bytes)
      (λ x. args_at tags end x.1 >>= λ others. Ok (x.0 ∷ others.0, others.1)) last
      ∙ each (arg_at tag end bytes))
      (then_good end (arg_at tag end)
      (λ first rest. args_at tags end rest >>= λ others. last (first ∷ others.0, others.1))
      (arg_field end tag)
      (λ first. args_good tags (λ others. last (first ∷ others.0, others.1))
      (λ args. ends (first ∷ args))))
    where
      each : (read : Result (Arg × List ℕ) PacketFault) →
          (read >>= λ x.
          (args_at tags end x.1 >>= λ others. Ok (x.0 ∷ others.0, others.1)) >>= last)
          ≡ (read >>= λ x. args_at tags end x.1 >>= λ others. last (x.0 ∷ others.0, others.1))
      each (Ok x) = bind_twice (args_at tags end x.1)
          (λ others. Ok (x.0 ∷ others.0, others.1)) last
      each (Err fault) = refl

  -- what stands behind an address
  abbrev from_tags : List ℕ → List ℕ → Result Message PacketFault
  from_tags address rest = tags_at end rest >>= λ tags. args_at tags.0 end tags.1 >>= λ args.
      if is_nothing args.1 then Ok (record { address = address; args = args.0 }) else
      Err (fault_at kinds.Extra end args.1)

  behind_address : (address : List ℕ) → Good end (from_tags address)
  behind_address address =
      then_good end (tags_at end)
      (λ tags rest. args_at tags end rest >>= λ args.
      if is_nothing args.1 then Ok (record { address = address; args = args.0 }) else
      Err (fault_at kinds.Extra end args.1))
      (tags_field end)
      (λ tags. args_good tags
      (λ args. if is_nothing args.1 then Ok (record { address = address; args = args.0 }) else
      Err (fault_at kinds.Extra end args.1))
      (λ args. at_front end _
      (λ left f is. good_front (is_nothing left) _ kinds.Extra end left f is)))

  message_good : Good end (message_at end)
  unfolding message_at
  message_good =
      then_good end (address_at end)
      from_tags (address_field end) behind_address

  -- a message that is read on behind its address begins with '/', and its fault stands behind that
  begins_so : (text more : List ℕ) → begins_with 47 text ≡ true →
      (rest : List ℕ) × (text ++ more ≡ 47 ∷ rest)
  begins_so [] more is = absurd (cc)
  begins_so (byte ∷ text) more is =
      (text ++ more, ap (λ b. b ∷ (text ++ more)) (eqb-true byte 47 is))

  slash_first : (bytes : List ℕ) (x : List ℕ × List ℕ) → address_at end bytes ≡ Ok x →
      (rest : List ℕ) × (bytes ≡ 47 ∷ rest)
  unfolding address_at
  slash_first bytes x is =
      let text = bind_ok (string_at end bytes)
      (λ text. if begins_with 47 text.0 then Ok text else
      Err (fault_at kinds.Text end bytes)) x is in
      let tested = guard_ok (begins_with 47 text.0.0) _ text.0 x text.2 in
      let took = string_takes end bytes text.0 text.1 in
      let zeros : List ℕ = replicate (zeros_behind (length text.0.0)) 0 in
      let slash = begins_so text.0.0 (zeros ++ text.0.1) tested.0 in (
        slash.0,
        took.parts ∙ ap (λ (b : List ℕ). b ++ text.0.1) took.is.spelled
            ∙ append_assoc text.0.0 zeros text.0.1 ∙ slash.1,
      )

  pub record BeginsOn (bytes : List ℕ) (f : PacketFault) : Type 0 where
    pub rest : List ℕ
    pub slash : bytes ≡ 47 ∷ rest
    pub behind : end < f.at + length bytes

  pub message_begins : (bytes : List ℕ) (f : PacketFault) → length bytes ≤ end →
      message_at end bytes ≡ Err f → (f.at ≡ end - length bytes) ⊎ BeginsOn bytes f
  unfolding message_at
  message_begins bytes f within is =
      ⊎_elim (λ (h : address_at end bytes ≡ Err f). inl ((address_field end).fault bytes f h))
      (λ (h : (x : List ℕ × List ℕ) × (address_at end bytes ≡ Ok x)
      × (from_tags x.0 x.1 ≡ Err f)).
      let slash = slash_first bytes h.0 h.1 in
      let front = (address_field end).parts bytes h.0 h.1 in
      let some = front.some in
      let size = ap length front.whole ∙ length-append front.front h.0.1 in
      let low = (behind_address h.0.0).low h.0.1 f h.2 in
      inr (record { rest = slash.0; slash = slash.1; behind = omega arith }))
      (bind_err (address_at end bytes) (λ address. from_tags address.0 address.1) f is)

  -- a message as all that its part says
  pub single_fault : (bytes : List ℕ) (f : PacketFault) → single_at end bytes ≡ Err f →
      message_at end bytes ≡ Err f
  unfolding single_at
  single_fault bytes f is =
      ⊎_elim (λ (h : message_at end bytes ≡ Err f). h)
      (λ (h : (m : Message) × (message_at end bytes ≡ Ok m)
      × ((let r : Result (List Message) PacketFault = Ok (m ∷ []) in r) ≡ Err f)). absurd (cc))
      (bind_err (message_at end bytes) (λ m. Ok (m ∷ [])) f is)

  pub single_good : Good end (single_at end)
  single_good =
      record {
        low = λ bytes f is. message_good.low bytes f (single_fault bytes f is);
        high = λ bytes f is. message_good.high bytes f (single_fault bytes f is);
        first = λ bytes others p f other within long same far is is_other.
            message_good.first bytes others p f other within long same far
            (single_fault bytes f is) (single_fault others other is_other);
      }

-- what begins with '/' is no bundle
slash_is_no_bundle : (rest : List ℕ) → is_bundle (47 ∷ rest) ≡ false
slash_is_no_bundle rest = refl

pub same_slash : (rest others : List ℕ) (p : ℕ) → 1 ≤ p → take p others ≡ take p (47 ∷ rest) →
    is_bundle others ≡ false
same_slash rest others p some same = by_first others (sym (take-take 1 p others some)
    ∙ ap (take 1) same ∙ take-take 1 p (47 ∷ rest) some)
  where
    by_first : (others : List ℕ) → take 1 others ≡ 47 ∷ [] → is_bundle others ≡ false
    by_first [] is = absurd (cc)
    by_first (byte ∷ more) is =
        let same : byte ≡ 47 = cc in
        subst (λ b. is_bundle (b ∷ more) ≡ false) (sym same) (slash_is_no_bundle more)

-- what begins with a bundle's head is one
pub same_head : (bytes others : List ℕ) (p : ℕ) → 8 ≤ p → take p others ≡ take p bytes →
    is_bundle others ≡ is_bundle bytes
same_head bytes others p far same =
    ap (bytes_eq bundle_head)
    (sym (take-take 8 p others far) ∙ ap (take 8) same ∙ take-take 8 p bytes far)

pub head_long : (bytes : List ℕ) → is_bundle bytes ≡ true → 8 ≤ length bytes
head_long bytes is =
    let head : bundle_head ≡ take 8 bytes = (bytes_eq-Decides bundle_head (take 8 bytes)).0 is in
    let size : 8 ≡ length (take 8 bytes) = ap length head in
    omega (arith, length-take 8 bytes)
