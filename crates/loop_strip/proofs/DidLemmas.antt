-- What a call did to a strip, from what it did to its layers; calls one after another; and the
-- other strips.
use Rattle.std.proofs.Common.{◌≡◌, ℕ, ◌+◌, ◌<◌, ◌≤◌, ◌/◌, length, refl, sym, ap, ap₂, subst, ◌∙◌, arith}
use Rattle.sl_base.specs.Sounds.{Sound}
use Rattle.looper_rules.specs.Room.{chunks_of}
use Rattle.looper_rules.specs.Stack.{Stack}
use Rattle.looper_rules.specs.Loop.{Loop, face_of}
use Rattle.loop_tape.specs.Pools.{PoolOf}
use Rattle.loop_tape.specs.Tapes.{TapeOf, at, IsWhole as IsWholeTape, Stays, OthersStay as OtherTapesStay}
use Rattle.layer_memory.specs.Seen.{reach}
use Rattle.layer_memory.specs.Answers.{Keeps}
use Rattle.layer_memory.specs.Sharing.{IsShared}
use Rattle.layer_memory.specs.Kept.{StackBelow}
use Rattle.loop_strip.specs.Strips.{StripOf, loop_map, seen, free_in, reach_in, Owns, OthersStay, Did}
use Rattle.loop_strip.specs.declared.parts.Parts.{Parts}
use Rattle.loop_strip.specs.Parts.{loop_of, strip_of}
use Rattle.layer_memory.proofs.SeenLemmas.{stack-agrees}
use Rattle.loop_strip.proofs.LoopLemmas.{face-mapped}

-- a strip as it is seen
pub seen-is : (s : StripOf) (p : PoolOf) → seen s p ≡ loop_map (at s.tape p) s.loop
unfolding seen
seen-is s p = refl

-- the tape length is the same with the pool
pub seen_tape : (s : StripOf) (p : PoolOf) → (seen s p).stack.tape ≡ s.loop.stack.tape
unfolding seen
seen_tape s p = refl

-- so is the deck
pub seen_deck : (s : StripOf) (p : PoolOf) → (seen s p).deck ≡ s.loop.deck
unfolding seen
seen_deck s p = refl

-- so are the controls
pub seen_controls : (s : StripOf) (p : PoolOf) → (seen s p).controls ≡ s.loop.controls
unfolding seen
seen_controls s p = refl

-- so is the face
pub seen_face : (s : StripOf) (p : PoolOf) → face_of (seen s p) ≡ face_of s.loop
seen_face s p = ap face_of (seen-is s p) ∙ face-mapped (at s.tape p) s.loop

-- what a strip reaches, by its tape length
pub reach-is : (s : StripOf) (p : PoolOf) → reach_in s p ≡ free_in p + chunks_of s.loop.stack.tape
reach-is s p = ap (λ t. free_in p + chunks_of t) (seen_tape s p)

-- what layers reach is what the strip reaches
pub reaches : (s : Parts) (p : PoolOf) → Owns (strip_of s) p →
    reach s.layers p ≡ reach_in (strip_of s) p
reaches s p o =
    let whole : length s.layers.tape.chunks ≡ (s.layers.tape.len + 4095) / 4096 = o.whole
    in let length_is : chunks_of s.layers.stack.tape ≡ (s.layers.tape.len + 4095) / 4096 =
    ap chunks_of o.length
    in let is : reach_in (strip_of s) p ≡ free_in p + chunks_of s.layers.stack.tape =
    reach-is (strip_of s) p
    in omega arith

-- the chunks of a strip's tape are in its reach
pub within_reach : (s : StripOf) (p : PoolOf) → chunks_of s.loop.stack.tape ≤ reach_in s p
within_reach s p = let is = reach-is s p in omega arith

-- a strip's layers own its tape
pub owned : (s : Parts) (p : PoolOf) → Rattle.loop_tape.specs.Tapes.Owns s.layers.tape p →
    IsShared s.layers → Owns (strip_of s) p
owned s p o h = record { tape = o; whole = h.whole; length = h.tape; low = h.low }

-- frames that a tape keeps are seen as before
same_seen : (u : StripOf) (p p' : PoolOf) → StackBelow u.tape.len u.loop.stack →
    ((a : ℕ) → a < u.tape.len → at u.tape p' a ≡ at u.tape p a) → seen u p' ≡ seen u p
same_seen u p p' low same =
    seen-is u p'
    ∙ ap (λ (s : Stack Sound). let l : Loop Sound =
    record {
      deck = u.loop.deck;
      controls = u.loop.controls;
      refused = u.loop.refused;
      stack =
          s;
    } in l) (stack-agrees (at u.tape p') (at u.tape p) u.tape.len u.loop.stack same low)
    ∙ sym (seen-is u p)

others_kept : (s s' : Parts) (p p' : PoolOf) → OtherTapesStay s.layers.tape s'.layers.tape p p' →
    OthersStay (strip_of s) (strip_of s') p p'
others_kept s s' p p' stay u b =
    let there : Stays u.tape s'.layers.tape p p' =
    stay u.tape b.owns.whole b.owns.tape b.apart.tapes
    in record {
      beside = record {
        owns = record {
          tape = there.owned;
          whole = b.owns.whole;
          length = b.owns.length;
          low =
              b.owns.low;
        };
        apart = record { tapes = there.apart };
      };
      same = same_seen u p p' b.owns.low there.frames;
    }

-- what a call did that went to its layers
pub did_kept : (act : ℕ → Loop Sound → Loop Sound) (s s' : Parts) (p p' : PoolOf) →
    Owns (strip_of s) p → Keeps s.layers s'.layers p p' → IsShared s'.layers →
    seen (strip_of s') p' ≡ act (reach_in (strip_of s) p) (seen (strip_of s) p) →
    Did act (strip_of s) (strip_of s') p p'
did_kept act s s' p p' o k h is =
    let own' : Owns (strip_of s') p' = owned s' p' k.owns h
    in record {
      seen = is;
      owns = own';
      reach = sym (reaches s' p' own') ∙ k.reached ∙ reaches s p o;
      others = others_kept s s' p p' k.others;
    }

-- what a call did that took no pool, where the loop of addresses is what the rules say, and they do
-- so to any loop
pub did_owned : (act : ℕ → Loop Sound → Loop Sound) (addressed : ℕ → Loop ℕ → Loop ℕ) (s s' : Parts)
    (p : PoolOf) → Owns (strip_of s) p → Owns (strip_of s') p → s'.layers.tape ≡ s.layers.tape →
    ((f : ℕ → Sound) (reach : ℕ) (l : Loop ℕ) →
    loop_map f (addressed reach l) ≡ act reach (loop_map f l)) →
    loop_of s' ≡ addressed (reach_in (strip_of s) p) (loop_of s) →
    Did act (strip_of s) (strip_of s') p p
did_owned act addressed s s' p o own' tape natural is =
    let length_is : s'.layers.stack.tape ≡ s.layers.stack.tape =
    own'.length ∙ ap (λ (t : TapeOf). t.len) tape ∙ sym o.length
    in let r = reach_in (strip_of s) p
    in record {
      seen =
          seen-is (strip_of s') p ∙ ap (loop_map (at s'.layers.tape p)) is
          ∙ natural (at s'.layers.tape p) r (loop_of s)
          ∙ ap (λ (t : TapeOf). act r (loop_map (at t p) (loop_of s))) tape
          ∙ ap (act r) (sym (seen-is (strip_of s) p));
      owns = own';
      reach = reach-is (strip_of s') p ∙ ap (λ n. free_in p + chunks_of n) length_is
          ∙ sym (reach-is (strip_of s) p);
      others = λ u b. record {
        beside = record {
          owns = b.owns;
          apart = record {
            tapes =
                subst (λ (t : TapeOf). Rattle.loop_tape.specs.Tapes.Apart u.tape t) (sym tape)
                b.apart.tapes;
          };
        };
        same = refl;
      };
    }

-- a call that changes no frame does to the loop of frames what it does to that of addresses
pub did_as : (act : ℕ → Loop Sound → Loop Sound) (addressed : ℕ → Loop ℕ → Loop ℕ) (s s' : Parts)
    (p : PoolOf) → Owns (strip_of s) p → s'.layers.tape ≡ s.layers.tape → IsShared s'.layers →
    ((f : ℕ → Sound) (reach : ℕ) (l : Loop ℕ) →
    loop_map f (addressed reach l) ≡ act reach (loop_map f l)) →
    loop_of s' ≡ addressed (reach_in (strip_of s) p) (loop_of s) →
    Did act (strip_of s) (strip_of s') p p
did_as act addressed s s' p o tape h natural is =
    did_owned act addressed s s' p o
    (owned s' p (subst (λ (t : TapeOf). Rattle.loop_tape.specs.Tapes.Owns t p) (sym tape) o.tape)
    h) tape natural is

-- one call and then another
pub did_then : {first next : ℕ → Loop Sound → Loop Sound} {s s1 s2 : StripOf} {p p1 p2 : PoolOf} →
    Did first s s1 p p1 → Did next s1 s2 p1 p2 →
    Did (λ reach l. next reach (first reach l)) s s2 p p2
did_then {first} {next} {s} {s1} {s2} {p} {p1} {p2} a b = record {
  seen = b.seen ∙ ap₂ next a.reach a.seen;
  owns = b.owns;
  reach = b.reach ∙ a.reach;
  others = λ u h. let mid = a.others u h in let last = b.others u mid.beside in
      record { beside = last.beside; same = last.same ∙ mid.same };
}

-- another name for what was done
pub did_also : {act other : ℕ → Loop Sound → Loop Sound} {s s' : StripOf} {p p' : PoolOf} →
    act (reach_in s p) (seen s p) ≡ other (reach_in s p) (seen s p) → Did act s s' p p' →
    Did other s s' p p'
did_also same d = record { seen = d.seen ∙ same; owns = d.owns; reach = d.reach; others = d.others }

-- nothing was done
pub did_nothing : {s : StripOf} {p : PoolOf} → Owns s p → Did (λ reach l. l) s s p p
did_nothing o = record {
  seen = refl;
  owns = o;
  reach = refl;
  others =
      λ u b. record { beside = b; same = refl };
}
