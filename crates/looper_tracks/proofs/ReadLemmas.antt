-- What is read track by track.
use Rattle.std.proofs.Common.{◌≡◌, ℕ, zero, suc, ◌+◌, ◌<◌, ◌≤◌, Bool, true, false, ◌||◌, List, [], ◌∷◌, length, take, drop, get_or, Option, Some, None, is_some, refl, sym, ap, ◌∙◌, subst, arith}
use Rattle.std.specs.Prelude.{slice_get}
use Rattle.std.specs.List.{AllByRecursion}
use Rattle.std.proofs.lemmas.List.{drop_more, drop_all, take_all, length-map, get_or-map}
use Rattle.std.proofs.lemmas.Option.{slice_get-get_or, slice_get_past}
use Rattle.sl_commands.specs.declared.Face.{Face}
use Rattle.looper_rules.specs.Stack.{Pin}
use Rattle.looper_rules.specs.Mapping.{pin_map}
use Rattle.looper_rules.specs.Loop.{face_of}
use Rattle.looper_rules.specs.Looper.{Asker, Track}
use Rattle.looper_rules.specs.Saves.{is_pinned, any_pinned, session_asker, asker_or, running_session}
use Rattle.loop_tape.specs.Pools.{PoolOf}
use Rattle.loop_tape.specs.Tapes.{at}
use Rattle.loop_strip.specs.Strips.{StripOf, seen}
use Rattle.looper_tracks.specs.Track.{TrackOf, track_in, tracks_in}
use Rattle.looper_tracks.specs.Tracks.{IsFreeAt, IsFreeOn}

-- the tracks from an index on begin with the track there
pub opened : (ls : List TrackOf) (k : ℕ) (l : TrackOf) → k < length ls → l ≡ get_or ls k l →
    drop k ls ≡ l ∷ drop (k + 1) ls
opened ls k l less is = drop_more ls k l less ∙ ap (λ u. u ∷ drop (k + 1) ls) (sym is)

-- what holds of the tracks before an index and of the track there
one_more : (P : Track → Type 0) (k : ℕ) (ls : List TrackOf) (l : TrackOf) (p : PoolOf) →
    k < length ls → l ≡ get_or ls k l →
    AllByRecursion P (tracks_in p (take k ls)) → P (track_in p l) →
    AllByRecursion P (tracks_in p (take (suc k) ls))
one_more P k [] l p less is all here = absurd (omega arith)
one_more P zero (x ∷ ls) l p less is all here = (subst (λ y. P (track_in p y)) is here, tt)
one_more P (suc k) (x ∷ ls) l p less is all here =
    (all.0, one_more P k ls l p (omega arith) is all.1 here)

-- what holds of the tracks before an index, and of the one there
pub all_more : (P : Track → Type 0) (k : ℕ) (ls : List TrackOf) (l : TrackOf) (p : PoolOf) →
    k < length ls → l ≡ get_or ls k l →
    AllByRecursion P (tracks_in p (take k ls)) → P (track_in p l) →
    AllByRecursion P (tracks_in p (take (k + 1) ls))
all_more P k ls l p less is all here =
    let at : suc k ≡ k + 1 = omega arith
    in subst (λ j. AllByRecursion P (tracks_in p (take j ls))) at
    (one_more P k ls l p less is all here)

-- whether a pin stands
pub pinned_later : (k : ℕ) (ls : List TrackOf) (l : TrackOf) (p : PoolOf) (face : Face) →
    k < length ls → l ≡ get_or ls k l → face ≡ face_of (seen l.strip p) → face.pinned ≡ false →
    any_pinned (tracks_in p ls) ≡ any_pinned (tracks_in p (drop k ls)) →
    any_pinned (tracks_in p ls) ≡ any_pinned (tracks_in p (drop (k + 1) ls))
pinned_later k ls l p face less is seen_is isnt so_far =
    let none : is_pinned (seen l.strip p) ≡ false = ap (λ (f : Face). f.pinned) (sym seen_is) ∙ isnt
    in so_far ∙ ap (λ us. any_pinned (tracks_in p us)) (opened ls k l less is)
    ∙ ap (λ b. b || any_pinned (tracks_in p (drop (k + 1) ls))) none

-- a pin that is found
pub pinned_here : (k : ℕ) (ls : List TrackOf) (l : TrackOf) (p : PoolOf) (face : Face) →
    k < length ls → l ≡ get_or ls k l → face ≡ face_of (seen l.strip p) → face.pinned ≡ true →
    any_pinned (tracks_in p ls) ≡ any_pinned (tracks_in p (drop k ls)) →
    true ≡ any_pinned (tracks_in p ls)
pinned_here k ls l p face less is seen_is isit so_far =
    let one : is_pinned (seen l.strip p) ≡ true = ap (λ (f : Face). f.pinned) (sym seen_is) ∙ isit
    in sym (so_far ∙ ap (λ us. any_pinned (tracks_in p us)) (opened ls k l less is)
    ∙ ap (λ b. b || any_pinned (tracks_in p (drop (k + 1) ls))) one)

-- no pin is found
pub pinned_none : (k : ℕ) (ls : List TrackOf) (p : PoolOf) → length ls ≤ k →
    any_pinned (tracks_in p ls) ≡ any_pinned (tracks_in p (drop k ls)) →
    false ≡ any_pinned (tracks_in p ls)
pinned_none k ls p past so_far =
    sym (so_far ∙ ap (λ us. any_pinned (tracks_in p us)) (drop_all k ls past))

-- the session's save that runs
none_else : (o other : Option Asker) → is_some o ≡ false → asker_or o other ≡ other
none_else None other isnt = refl
none_else (Some a) other isnt = let off : ⊥ = cc in absurd off

some_first : (o other : Option Asker) → is_some o ≡ true → asker_or o other ≡ o
some_first None other isit = let off : ⊥ = cc in absurd off
some_first (Some a) other isit = refl

-- the track of an index has no session's asker
pub runs_later : (k : ℕ) (ls : List TrackOf) (l : TrackOf) (p : PoolOf) (a : Option Asker)
    (b : Bool) → k < length ls → l ≡ get_or ls k l → a ≡ session_asker l.asker → b ≡ is_some a →
    b ≡ false →
    running_session (tracks_in p ls) ≡ running_session (tracks_in p (drop k ls)) →
    running_session (tracks_in p ls) ≡ running_session (tracks_in p (drop (k + 1) ls))
runs_later k ls l p a b less is asks some isnt so_far =
    let none : is_some (session_asker l.asker) ≡ false = ap is_some (sym asks) ∙ sym some ∙ isnt
    in so_far ∙ ap (λ us. running_session (tracks_in p us)) (opened ls k l less is)
    ∙ none_else (session_asker l.asker) (running_session (tracks_in p (drop (k + 1) ls))) none

-- the track of an index has a session's asker
pub runs_here : (k : ℕ) (ls : List TrackOf) (l : TrackOf) (p : PoolOf) (a : Option Asker)
    (b : Bool) →
    k < length ls → l ≡ get_or ls k l → a ≡ session_asker l.asker → b ≡ is_some a → b ≡ true →
    running_session (tracks_in p ls) ≡ running_session (tracks_in p (drop k ls)) →
    a ≡ running_session (tracks_in p ls)
runs_here k ls l p a b less is asks some isit so_far =
    let one : is_some (session_asker l.asker) ≡ true = ap is_some (sym asks) ∙ sym some ∙ isit
    in asks
    ∙ sym (so_far ∙ ap (λ us. running_session (tracks_in p us)) (opened ls k l less is)
    ∙ some_first (session_asker l.asker) (running_session (tracks_in p (drop (k + 1) ls))) one)

-- no track has one
pub runs_none : (k : ℕ) (ls : List TrackOf) (p : PoolOf) → length ls ≤ k →
    running_session (tracks_in p ls) ≡ running_session (tracks_in p (drop k ls)) →
    None ≡ running_session (tracks_in p ls)
runs_none k ls p past so_far =
    sym (so_far ∙ ap (λ us. running_session (tracks_in p us)) (drop_all k ls past))

-- the track of an index
pub track_there : (p : PoolOf) (ls : List TrackOf) (k : ℕ) (l : TrackOf) → k < length ls →
    l ≡ get_or ls k l → slice_get (tracks_in p ls) k ≡ Some (track_in p l)
track_there p ls k l less is =
    let fits : k < length (tracks_in p ls) = simp length-map less
    in slice_get-get_or (tracks_in p ls) k (track_in p l) fits
    ∙ ap Some (get_or-map (track_in p) ls k l (track_in p l) less ∙ ap (track_in p) (sym is))

no_pin : {A B : Type 0} (f : A → B) (pin : Option (Pin A)) → is_some (pin_map f pin) ≡ false →
    pin ≡ None
no_pin f None none = refl
no_pin f (Some q) none = let off : ⊥ = cc in absurd off

-- a strip that is seen with no pin has none
pub free_seen : (s : StripOf) (p : PoolOf) → is_pinned (seen s p) ≡ false → s.loop.stack.pin ≡ None
unfolding seen
free_seen s p none = no_pin (at s.tape p) s.loop.stack.pin none

-- the track of this index has no pin
pub free_on : (k : ℕ) (ls : List TrackOf) (l : TrackOf) (p : PoolOf) → k < length ls →
    l ≡ get_or ls k l → IsFreeAt k (tracks_in p ls) → l.strip.loop.stack.pin ≡ None
free_on k ls l p less is free =
    free_seen l.strip p (subst IsFreeOn (track_there p ls k l less is) free)

neither : (a b : Bool) → (a || b) ≡ false → (a ≡ false) × (b ≡ false)
neither true b h = let off : ⊥ = cc in absurd off
neither false b h = (refl, h)

free_from : (k : ℕ) (ts : List Track) → any_pinned ts ≡ false → any_pinned (drop k ts) ≡ false
free_from zero ts none = none
free_from (suc k) [] none = refl
free_from (suc k) (t ∷ ts) none = free_from k ts (neither (is_pinned t.loop) (any_pinned ts) none).1

-- nor has one of those that aren't changed yet, where none had
pub free_left : (k : ℕ) (ls ls0 : List TrackOf) (l : TrackOf) (p : PoolOf) → k < length ls →
    l ≡ get_or ls k l → drop k (tracks_in p ls) ≡ drop k (tracks_in p ls0) →
    any_pinned (tracks_in p ls0) ≡ false →
    l.strip.loop.stack.pin ≡ None
free_left k ls ls0 l p less is same none =
    let left : any_pinned (drop k (tracks_in p ls)) ≡ false = ap any_pinned same
    ∙ free_from k (tracks_in p ls0) none
    in let fits : k < length (tracks_in p ls) = simp length-map less
    in let here : get_or (tracks_in p ls) k (track_in p l) ≡ track_in p l =
    get_or-map (track_in p) ls k l (track_in p l) less ∙ ap (track_in p) (sym is)
    in let first : drop k (tracks_in p ls) ≡ track_in p l ∷ drop (k + 1) (tracks_in p ls) =
    drop_more (tracks_in p ls) k (track_in p l) fits
    ∙ ap (λ t. t ∷ drop (k + 1) (tracks_in p ls)) here
    in free_seen l.strip p
    (neither (is_pinned (seen l.strip p)) (any_pinned (drop (k + 1) (tracks_in p ls)))
    (ap any_pinned (sym first) ∙ left)).0
