-- What an entry saves.
use Rattle.std.proofs.Common.{◌≡◌, ◌⊎◌, ℕ, Bool, true, false, List, Option, Some, None, option_map, if◌then◌else◌, refl, subst, inl, inr}
use Rattle.sl_commands.specs.declared.Target.{Target}
use Rattle.sl_commands.specs.declared.Command.{Command}
use Rattle.sl_commands.specs.declared.Command.TheVariants.{SaveLoop, SaveSession}
use Rattle.sl_commands.specs.declared.Entry.{Entry}
use Rattle.looper_rules.specs.Looper.{Track, Looper}
use Rattle.looper_rules.specs.Saves.{Save, session_refusal}
use Rattle.looper_rules.specs.Entries.{is_taken, save, save_of, track_of, refusal_at, loop_save, session_save, unless_refused}

-- an option behind a test, or behind a refusal
pub taken_some : (taken : Bool) (o : Option Save) (s : Save) →
    (if taken then o else None) ≡ Some s → o ≡ Some s
taken_some true o s is = is
taken_some false o s is = absurd (cc)

pub unrefused_some : (refusal : Option ℕ) (o : Option Save) (s : Save) →
    unless_refused refusal o ≡ Some s →
    o ≡ Some s
unrefused_some None o s is = is
unrefused_some (Some n) o s is = absurd (cc)

-- where an entry saves, it is taken, and its save isn't refused
pub taken_if_some : (taken : Bool) (o : Option Save) (s : Save) →
    (if taken then o else None) ≡ Some s → taken ≡ true
taken_if_some true o s is = refl
taken_if_some false o s is = absurd (cc)

pub unrefused_if_some : (refusal : Option ℕ) (o : Option Save) (s : Save) →
    unless_refused refusal o ≡ Some s →
    refusal ≡ None
unrefused_if_some None o s is = refl
unrefused_if_some (Some n) o s is = absurd (cc)

-- what stands behind a mapped option
mapped_some : (f : Track → Save) (o : Option Track) (s : Save) → option_map f o ≡ Some s →
    (t : Track) × (o ≡ Some t) × (s ≡ f t)
mapped_some f None s is = absurd (cc)
mapped_some f (Some t) s is = (t, refl, cc)

some_same : (a b : Save) → Some a ≡ Some b → b ≡ a
some_same a b is = cc

-- the save of a loop is that of the track that its target names
pub save-of_loop : (e : Entry) (l : Looper) (s : Save) (target : Target) (name : List ℕ) →
    e.command ≡ SaveLoop target name → save e l ≡ Some s →
    (t : Track) × (track_of target l ≡ Some t) × (s ≡ loop_save target name l t)
save-of_loop e l s target name is made =
    let saved = subst (λ c. save_of c l ≡ Some s) is
    (taken_some (is_taken e l) (save_of e.command l) s made) in
    mapped_some (loop_save target name l) (track_of target l) s
    (unrefused_some (refusal_at target l) _ s saved)

-- the save of a session is that of the whole looper
pub save-of_session : (e : Entry) (l : Looper) (s : Save) (name : List ℕ) →
    e.command ≡ SaveSession name →
    save e l ≡ Some s → s ≡ session_save name l
save-of_session e l s name is made =
    let saved = subst (λ c. save_of c l ≡ Some s) is
    (taken_some (is_taken e l) (save_of e.command l) s made) in
    some_same (session_save name l) s
    (unrefused_some (session_refusal l.tracks) (Some (session_save name l)) s saved)

-- other commands save nothing
saved_only : (c : Command) (l : Looper) (s : Save) → save_of c l ≡ Some s →
    ((target : Target) × (name : List ℕ) × (c ≡ SaveLoop target name))
    ⊎ ((name : List ℕ) × (c ≡ SaveSession name))
saved_only (SaveLoop target name) l s made = inl (target, name, refl)
saved_only (SaveSession name) l s made = inr (name, refl)
saved_only _ l s made = absurd (cc)

pub save-only : (e : Entry) (l : Looper) (s : Save) → save e l ≡ Some s →
    ((target : Target) × (name : List ℕ) × (e.command ≡ SaveLoop target name))
    ⊎ ((name : List ℕ) × (e.command ≡ SaveSession name))
save-only e l s made =
    saved_only e.command l s (taken_some (is_taken e l) (save_of e.command l) s made)
