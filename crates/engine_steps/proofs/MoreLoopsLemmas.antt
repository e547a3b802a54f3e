-- A run with more loops that begin empty sounds as the run without them.
use Rattle.std.proofs.Common.{◌≡◌, ℕ, zero, suc, ◌+◌, ◌-◌, ◌<◌, ◌≤◌, Bool, true, false, List, [], ◌∷◌, ◌++◌, length, map, Option, Some, None, refl, sym, ap, ap₂, ◌∙◌, subst, arith, cond, ℤ, pos, negsuc, append_assoc, append-nil, length-append, nat_le, nat_lt, ◌&&◌}
use Rattle.std.specs.Prelude.{◌==◌, ◌||◌, IsTrue, slice_get, ⊤}
use Rattle.std.specs.Option.{option_and_then}
use Rattle.std.specs.List.{All, AllByRecursion}
use Rattle.std.proofs.lemmas.List.{length-map}
use Rattle.std.proofs.lemmas.List.Elements.{All-head, All-tail}
use Rattle.std.proofs.lemmas.Bool.{and_parts, and_from, ltb-true, lt-ltb, leb-true, le-leb, cond-true, false≢true}
use Rattle.sl_base.specs.Sounds.{Sound, silence, summed, clamped_sound, scaled_sound}
use Rattle.sl_commands.specs.declared.Control.{Control}
use Rattle.sl_commands.specs.declared.control.Range.{Range}
use Rattle.sl_commands.specs.declared.Target.{Target}
use Rattle.sl_commands.specs.declared.Target.TheVariants.{One, All as AllLoops, Selected}
use Rattle.sl_commands.specs.declared.Command.{Command}
use Rattle.sl_commands.specs.declared.Command.TheVariants.{Down, Up, Hit, Set, SetGlobal, Get, GetGlobal, SaveLoop, SaveSession, Release, Quit}
use Rattle.sl_commands.specs.declared.Entry.{Entry}
use Rattle.sl_commands.specs.declared.Globals.{Globals}
use Rattle.sl_commands.specs.declared.Face.{Face}
use Rattle.sl_commands.specs.declared.StripSettings.{StripSettings}
use Rattle.sl_commands.specs.Entries.{is_sender, is_valid}
use Rattle.sl_commands.specs.Commands.{is_target, is_single_target, is_release_target, is_allowed}
use Rattle.sl_commands.specs.Controls.{control_row, is_within}
use Rattle.sl_commands.specs.Settings.{LooperSettings, are_globals}
use Rattle.sl_commands.specs.declared.control.Range.TheVariants.{ReadOnly, Between, Source, LoopIndex}
use Rattle.looper_rules.specs.Room.{chunks_of}
use Rattle.looper_rules.specs.Loop.{Loop}
use Rattle.looper_rules.specs.Presses.{waiting_acts}
use Rattle.looper_rules.specs.Run.{first_track, first_tracks, start, entered, due, later, begun, run}
use Rattle.looper_rules.specs.Boundaries.{source_at_unit, is_boundary}
use Rattle.looper_rules.specs.Gains.{gain_after, sum_of, output_of}
use Rattle.looper_rules.specs.Looper.{Asker, Track, Looper, tape_of, face_on, faces_of, free_of, reach_of, swept, itself, at_index, at_target, on_loop, on_target, index_of}
use Rattle.looper_rules.specs.Saves.{pinned_for, loop_released, save_refusal}
use Rattle.looper_rules.specs.Entries.{is_taken, track_of, refusal_at, with_save_of, saves_loop, asker_of, releases, performed, applied}
use Rattle.looper_rules.specs.Frame.{Framed, framed, framed_from, framed_with, all_played, at_boundary, at_boundaries, given_by, played_on, played}
use Rattle.looper_rules.specs.Reached.{AreLists, IsBeginning, KeepsLooper}
use Rattle.looper_laws.proofs.Kept.Selected.{selects}
use Rattle.looper_laws.proofs.Kept.Starts.{begins}
use Rattle.looper_laws.proofs.Kept.Runs.{entered_keeps, frame_keeps}
use Rattle.run_laws.proofs.Runs.Sizes.{HasLoops, applied-has_loops, framed-has_loops, entered-has_loops}
use Rattle.run_laws.proofs.Runs.Cuts.{due-all, later-all}
use Rattle.engine_steps.specs.MoreLoops.{NamesOneLoop, SpeaksOf, with_more}
use Rattle.engine_steps.proofs.IdleLemmas.{AreIdle, free-wide, at_index-wide, slice_get-wide, map-wide, swept-wide, boundaries-idle, idle_played, all_played-idle, idle_still}

-- a looper with more tracks
abbrev pub wider : List Track → Looper → Looper
wider more l = record l { tracks = l.tracks ++ more }

same_wider : (l : Looper) (ts : List Track) (saves : ℕ) (us : List Track) → ts ≡ us →
    record l { tracks = ts; saves = saves }
    ≡ (let m : Looper = record l { tracks = us; saves = saves } in m)
same_wider l ts saves us is =
    ap (λ vs. let m : Looper = record l { tracks = vs; saves = saves } in m) is

-- something done to one loop
target-wide :
    (target : Target) (act : ℕ → Loop Sound → Loop Sound) (l : Looper) (more : List Track) →
    AreIdle more → index_of target l.globals.selected_loop_num < length l.tracks →
    (let selected = l.globals.selected_loop_num in
    (free : ℕ) (ts : List Track) → at_target target selected (on_loop act) free ts ≡ at_index
    (index_of target selected) (on_loop act) free ts) →
    on_target target act (wider more l) ≡ wider more (on_target target act l)
target-wide target act l more idle less one =
    let k = index_of target l.globals.selected_loop_num
    in let free = free_of l.chunks l.tracks
    in same_wider l _ l.saves _
    (ap (λ n. at_target target l.globals.selected_loop_num (on_loop act) n (l.tracks ++ more))
    (free-wide l.chunks l.tracks more idle)
    ∙ one free (l.tracks ++ more)
    ∙ at_index-wide k (on_loop act) free l.tracks more less
    ∙ ap (λ ts. ts ++ more) (sym (one free l.tracks)))

-- which loop a target of the fewer names
names_there : (target : Target) (l : Looper) → is_target (length l.tracks) target ≡ true →
    l.globals.selected_loop_num < length l.tracks →
    index_of target l.globals.selected_loop_num < length l.tracks
names_there (One k) l there selected = ltb-true k (length l.tracks) there
names_there AllLoops l there selected = selected
names_there Selected l there selected = selected

-- a save of one loop
save-wide : (answer : Option ℕ) (k : ℕ) (asker : Asker) (l : Looper) (more : List Track) →
    k < length l.tracks →
    saves_loop answer k asker (wider more l) ≡ wider more (saves_loop answer k asker l)
save-wide None k asker l more less = same_wider l _ (l.saves + 1) _
    (at_index-wide k (λ reach t. pinned_for asker t) 0 l.tracks more less)
save-wide (Some n) k asker l more less = refl

-- the command of an entry that speaks of the fewer
loop_command : (target : Target) (act : ℕ → Loop Sound → Loop Sound) (l : Looper)
    (more : List Track) → AreIdle more → is_target (length l.tracks) target ≡ true →
    l.globals.selected_loop_num < length l.tracks → (target ≡ AllLoops → ⊥) →
    on_target target act (wider more l) ≡ wider more (on_target target act l)
loop_command (One k) act l more idle there selected single =
    target-wide (One k) act l more idle (ltb-true k (length l.tracks) there) (λ free ts. refl)
loop_command AllLoops act l more idle there selected single = absurd (single refl)
loop_command Selected act l more idle there selected single =
    target-wide Selected act l more idle selected (λ free ts. refl)

-- a save of the loop that a target names
save_there : (target : Target) (e : Entry) (l : Looper) (more : List Track) →
    index_of target l.globals.selected_loop_num < length l.tracks →
    saves_loop (refusal_at target (wider more l)) (index_of target l.globals.selected_loop_num)
    (asker_of e false) (wider more l)
    ≡ wider more (saves_loop (refusal_at target l) (index_of target l.globals.selected_loop_num)
    (asker_of e false) l)
save_there target e l more less =
    let k = index_of target l.globals.selected_loop_num
    in let same : refusal_at target (wider more l) ≡ refusal_at target l =
    ap (option_and_then save_refusal) (slice_get-wide l.tracks more k less)
    in ap (λ answer. saves_loop answer k (asker_of e false) (wider more l)) same
    ∙ save-wide (refusal_at target l) k (asker_of e false) l more less

-- what such a command does
performed-wide : (command : Command) (frame : ℕ) (e : Entry) (l : Looper) (more : List Track) →
    AreIdle more → is_allowed (length l.tracks) command ≡ true → NamesOneLoop command →
    l.globals.selected_loop_num < length l.tracks →
    performed command frame e (wider more l) ≡ wider more (performed command frame e l)
performed-wide (Down (One k) verb) frame e l more idle there single selected =
    loop_command (One k) _ l more idle there selected (λ is. cc)
performed-wide (Down Selected verb) frame e l more idle there single selected =
    loop_command Selected _ l more idle there selected (λ is. cc)
performed-wide (Down AllLoops verb) frame e l more idle there single selected = absurd single
performed-wide (Up (One k) verb) frame e l more idle there single selected =
    loop_command (One k) _ l more idle there selected (λ is. cc)
performed-wide (Up Selected verb) frame e l more idle there single selected =
    loop_command Selected _ l more idle there selected (λ is. cc)
performed-wide (Up AllLoops verb) frame e l more idle there single selected = absurd single
performed-wide (Hit (One k) verb) frame e l more idle there single selected =
    loop_command (One k) _ l more idle there selected (λ is. cc)
performed-wide (Hit Selected verb) frame e l more idle there single selected =
    loop_command Selected _ l more idle there selected (λ is. cc)
performed-wide (Hit AllLoops verb) frame e l more idle there single selected = absurd single
performed-wide (Set (One k) control value) frame e l more idle there single selected =
    loop_command (One k) _ l more idle (and_parts _ _ (and_parts _ _ there).0).0 selected (λ is. cc)
performed-wide (Set Selected control value) frame e l more idle there single selected =
    loop_command Selected _ l more idle refl selected (λ is. cc)
performed-wide (Set AllLoops control value) frame e l more idle there single selected =
    absurd single
performed-wide (SetGlobal control value) frame e l more idle there single selected = refl
performed-wide (Get target control) frame e l more idle there single selected = refl
performed-wide (GetGlobal control) frame e l more idle there single selected = refl
performed-wide (SaveLoop (One k) name) frame e l more idle there single selected =
    save_there (One k) e l more (ltb-true k (length l.tracks) (and_parts _ _ there).0)
performed-wide (SaveLoop Selected name) frame e l more idle there single selected =
    save_there Selected e l more selected
performed-wide (SaveLoop AllLoops name) frame e l more idle there single selected =
    absurd (false≢true there)
performed-wide (SaveSession name) frame e l more idle there single selected = absurd single
performed-wide (Release (One k) outcome) frame e l more idle there single selected =
    same_wider l _ l.saves _
    (at_index-wide k (λ reach t. loop_released t) 0 l.tracks more
    (ltb-true k (length l.tracks) (and_parts _ _ there).0))
performed-wide (Release Selected outcome) frame e l more idle there single selected = refl
performed-wide (Release AllLoops outcome) frame e l more idle there single selected = absurd single
performed-wide Quit frame e l more idle there single selected = refl

-- what is valid for the fewer is valid for more
target-more : (target : Target) (n m : ℕ) → n ≤ m → is_target n target ≡ true →
    is_target m target ≡ true
target-more (One i) n m le there = let less = ltb-true i n there in lt-ltb i m (omega arith)
target-more AllLoops n m le there = refl
target-more Selected n m le there = refl

single-more : (target : Target) (n m : ℕ) → n ≤ m → is_single_target n target ≡ true →
    is_single_target m target ≡ true
single-more (One i) n m le there = let less = ltb-true i n there in lt-ltb i m (omega arith)
single-more AllLoops n m le there = there
single-more Selected n m le there = refl

release-more : (target : Target) (n m : ℕ) → n ≤ m → is_release_target n target ≡ true →
    is_release_target m target ≡ true
release-more (One i) n m le there = let less = ltb-true i n there in lt-ltb i m (omega arith)
release-more AllLoops n m le there = refl
release-more Selected n m le there = there

within-more : (r : Range) (z : ℤ) (n m : ℕ) → n ≤ m → is_within r n z ≡ true →
    is_within r m z ≡ true
within-more ReadOnly z n m le there = there
within-more (Between least greatest first) (pos k) n m le there = there
within-more (Between least greatest first) (negsuc k) n m le there = there
within-more Source (pos k) n m le there = let less = leb-true k n there in le-leb k m (omega arith)
within-more Source (negsuc k) n m le there = there
within-more LoopIndex (pos k) n m le there = let less = ltb-true k n there in
    lt-ltb k m (omega arith)
within-more LoopIndex (negsuc k) n m le there = there

allowed-more : (command : Command) (n m : ℕ) → n ≤ m → is_allowed n command ≡ true →
    is_allowed m command ≡ true
allowed-more (Down target verb) n m le there = target-more target n m le there
allowed-more (Up target verb) n m le there = target-more target n m le there
allowed-more (Hit target verb) n m le there = target-more target n m le there
allowed-more (Set target control value) n m le there =
    let outer = and_parts _ _ there
    in let inner = and_parts _ _ outer.0
    in and_from _ _ (and_from _ _ (target-more target n m le inner.0) inner.1)
    (within-more (control_row control).range value n m le outer.1)
allowed-more (SetGlobal control value) n m le there =
    let parts = and_parts _ _ there in
    and_from _ _ parts.0 (within-more (control_row control).range value n m le parts.1)
allowed-more (Get target control) n m le there = let parts = and_parts _ _ there in
    and_from _ _ (single-more target n m le parts.0) parts.1
allowed-more (GetGlobal control) n m le there = there
allowed-more (SaveLoop target name) n m le there = let parts = and_parts _ _ there in
    and_from _ _ (single-more target n m le parts.0) parts.1
allowed-more (SaveSession name) n m le there = there
allowed-more (Release target outcome) n m le there = let parts = and_parts _ _ there in
    and_from _ _ (release-more target n m le parts.0) parts.1
allowed-more Quit n m le there = there

-- an entry
applied-wide : (n frame : ℕ) (e : Entry) (l : Looper) (more : List Track) → AreIdle more →
    HasLoops n l → SpeaksOf n e → applied frame e (wider more l) ≡ wider more (applied frame e l)
applied-wide n frame e l more idle h speaks =
    let loops = h.loops
    in let valid : is_valid (length l.tracks) e ≡ true = ap (λ k. is_valid k e) loops ∙ speaks.valid
    in let parts = and_parts (is_sender e.sender e.command) (is_allowed (length l.tracks) e.command)
    valid
    in let longer = length-append l.tracks more
    in let taken : is_taken e (wider more l) ≡ true =
    and_from _ _ parts.0
    (allowed-more e.command (length l.tracks) (length (l.tracks ++ more)) (omega arith) parts.1)
    in let selected : l.globals.selected_loop_num < length l.tracks =
    (let less = h.selects in omega arith)
    in cond-true _ (performed e.command frame e (wider more l)) (wider more l) taken
    ∙ performed-wide e.command frame e l more idle parts.1 speaks.single selected
    ∙ ap (wider more) (sym (cond-true _ (performed e.command frame e l) l valid))

entered-wide : (n frame : ℕ) (es : List Entry) (l : Looper) (more : List Track) → AreIdle more →
    HasLoops n l → All (SpeaksOf n) es →
    (entered frame es (wider more l)).looper ≡ wider more (entered frame es l).looper
entered-wide n frame [] l more idle h all = refl
entered-wide n frame (e ∷ es) l more idle h all =
    ap (λ m. (entered frame es m).looper)
    (applied-wide n frame e l more idle h (All-head (SpeaksOf n) e es all))
    ∙ entered-wide n frame es (applied frame e l) more idle (applied-has_loops n frame e l h)
    (All-tail (SpeaksOf n) e es all)

-- the same is done where each step is the same
swept-same : {B : Type 0} (on : B → Track) (act act' : ℕ → Track → B) (free : ℕ) (ts : List Track) →
    ((reach : ℕ) (t : Track) → act reach t ≡ act' reach t) →
    swept on act free ts ≡ swept on act' free ts
swept-same on act act' free [] same = refl
swept-same on act act' free (t ∷ ts) same =
    let reach = reach_of free t
    in ap₂ (λ now us. now ∷ us) (same reach t)
    (swept-same on act act' (reach - chunks_of (tape_of (on (act reach t)))) ts same)
    ∙ ap (λ (now : _). act' reach t ∷ swept on act' (reach - chunks_of (tape_of (on now))) ts)
    (same reach t)

-- a source that is one of the fewer
IsThere : ℤ → ℕ → Type 0
IsThere (pos (suc k)) n = k < n
IsThere _ n = ⊤

source_there : (source : ℤ) (n : ℕ) → is_within Source n source ≡ true → IsThere source n
unfolding IsThere
source_there (pos zero) n within = tt
source_there (pos (suc k)) n within = let least = leb-true (suc k) n within in omega arith
source_there (negsuc k) n within = tt

boundary-wide : (source : ℤ) (quantize pulse frame : ℕ) (faces more : List Face) →
    IsThere source (length faces) → is_boundary source quantize pulse frame (faces ++ more)
    ≡ is_boundary source quantize pulse frame faces
unfolding IsThere
boundary-wide (pos zero) quantize pulse frame faces more there = refl
boundary-wide (pos (suc k)) quantize pulse frame faces more there =
    ap (λ f. quantize == 0 || source_at_unit quantize f) (slice_get-wide faces more k there)
boundary-wide (negsuc n) quantize pulse frame faces more there = refl

source_range : (loops : ℕ) (g : Globals) → are_globals loops g ≡ true →
    is_within Source loops g.sync_source ≡ true
source_range loops g h =
    let up_to_long = (and_parts _ _ h).0
    in let up_to_fade = (and_parts _ _ up_to_long).0
    in let up_to_selected = (and_parts _ _ up_to_fade).0
    in let up_to_source = (and_parts _ _ up_to_selected).0
    in (and_parts _ _ up_to_source).1

-- the boundaries of a frame
boundaries-wide : (frame : ℕ) (l : Looper) (more : List Track) → AreIdle more →
    IsThere l.globals.sync_source (length l.tracks) →
    at_boundaries frame (wider more l) ≡ wider more (at_boundaries frame l)
boundaries-wide frame l more idle there =
    let g = l.globals
    in let faces = map face_on l.tracks
    in let faces' = map face_on (l.tracks ++ more)
    in let all : faces' ≡ faces ++ map face_on more = map-wide face_on l.tracks more
    in let long : length faces ≡ length l.tracks = simp length-map
    in let there' : IsThere g.sync_source (length faces) =
    subst (IsThere g.sync_source) (sym long) there
    in let same : (reach : ℕ) (t : Track) →
    on_loop (at_boundary g frame faces') reach t ≡ on_loop (at_boundary g frame faces) reach t =
    λ reach t. ap (λ b. let u : Track =
    record t { loop = cond b (waiting_acts reach t.loop) t.loop } in u)
    (ap (is_boundary g.sync_source t.loop.controls.quantize g.pulse frame) all ∙ boundary-wide
    g.sync_source t.loop.controls.quantize g.pulse frame faces (map face_on more) there')
    in same_wider l _ l.saves _
    (ap (λ n. swept itself (on_loop (at_boundary g frame faces')) n (l.tracks ++ more))
    (free-wide l.chunks l.tracks more idle)
    ∙ swept-wide itself (on_loop (at_boundary g frame faces')) (free_of l.chunks l.tracks) l.tracks
    more more (λ free. boundaries-idle g frame faces' free more idle)
    ∙ ap (λ ts. ts ++ more)
    (swept-same itself (on_loop (at_boundary g frame faces'))
    (on_loop (at_boundary g frame faces)) (free_of l.chunks l.tracks) l.tracks same))

-- silence adds nothing
silent : (step : ℕ) (more : List Track) →
    sum_of (map given_by (map (idle_played step) more)) ≡ silence
silent step [] = refl
silent step (t ∷ ts) = ap (summed silence) (silent step ts)

sum-wide : (step : ℕ) (gs : List Sound) (more : List Track) →
    sum_of (gs ++ map given_by (map (idle_played step) more)) ≡ sum_of gs
sum-wide step [] more = silent step more
sum-wide step (g ∷ gs) more = ap (summed g) (sum-wide step gs more)

-- a frame
record IsWide (frame : ℕ) (x : Sound) (l : Looper) (more : List Track) : Type 0 where
  output : (framed frame x (wider more l)).output ≡ (framed frame x l).output
  later : List Track
  idle : AreIdle later
  looper : (framed frame x (wider more l)).looper ≡ wider later (framed frame x l).looper

played-wide : (x : Sound) (m : Looper) (more : List Track) → AreIdle more →
    all_played x (wider more m) ≡ all_played x m ++ map (idle_played m.globals.fade_step) more
played-wide x m more idle =
    let step = m.globals.fade_step
    in ap (λ n. swept played_on (played step x) n (m.tracks ++ more))
    (free-wide m.chunks m.tracks more idle)
    ∙ swept-wide played_on (played step x) (free_of m.chunks m.tracks) m.tracks more
    (map (idle_played step) more) (λ free. all_played-idle step x free more idle)

framed-wide : (frame : ℕ) (x : Sound) (l : Looper) (more : List Track) → AreIdle more →
    IsThere l.globals.sync_source (length l.tracks) → IsWide frame x l more
framed-wide frame x l more idle there =
    let m = at_boundaries frame l
    in let step = l.globals.fade_step
    in let dry = gain_after l.dry l.globals.dry step
    in let ps = all_played x m
    in let qs = map (idle_played step) more
    in let at = boundaries-wide frame l more idle there
    in let all = played-wide x m more idle
    in let given : sum_of (map given_by (ps ++ qs)) ≡ sum_of (map given_by ps) =
    ap sum_of (map-wide given_by ps qs) ∙ sum-wide step (map given_by ps) more
    in record {
      output = ap (λ n. (framed_from x n).output) at
          ∙ ap (λ os. output_of x dry (map given_by os)) all
          ∙ ap (λ s. clamped_sound (summed s (scaled_sound x dry))) given;
      later = map played_on qs;
      idle = idle_still step more idle;
      looper = ap (λ n. (framed_from x n).looper) at
          ∙ ap (λ os. let n : Looper = record l { dry = dry; tracks = map played_on os } in n) all
          ∙ ap (λ ts. let n : Looper = record l { dry = dry; tracks = ts } in n)
          (map-wide played_on ps qs);
    }

-- frames in a row
begun-wide : (n frame : ℕ) (es : List Entry) (xs : List Sound) (l : Looper) (more : List Track) →
    AreIdle more → HasLoops n l → KeepsLooper frame l → All (SpeaksOf n) es →
    (begun frame es xs (wider more l)).output ≡ (begun frame es xs l).output
begun-wide n frame es [] l more idle h kept all = refl
begun-wide n frame es (x ∷ xs) l more idle h kept all =
    let now_due = due frame es
    in let rest = later frame es
    in let m = (entered frame now_due l).looper
    in let entry = entered-wide n frame now_due l more idle h (due-all (SpeaksOf n) frame es all)
    in let loops = entered-has_loops n frame now_due l h
    in let kept' : KeepsLooper frame m = entered_keeps frame now_due l kept
    in let there = source_there m.globals.sync_source (length m.tracks)
    (source_range (length m.tracks) m.globals kept'.looper.globals)
    in let wide = framed-wide frame x m more idle there
    in let next = (framed frame x m).looper
    in ap (λ k. (framed frame x k).output
    ∷ (begun (frame + 1) rest xs (framed frame x k).looper).output) entry
    ∙ ap₂ (λ out k. out ∷ (begun (frame + 1) rest xs k).output) wide.output wide.looper
    ∙ ap (λ out. (framed frame x m).output ∷ out)
    (begun-wide n (frame + 1) rest xs next wide.later wide.idle (framed-has_loops n frame x m loops)
    (frame_keeps frame frame x m kept') (later-all (SpeaksOf n) frame es all))

-- loops that begin with no list are idle
first_idle : (more : List StripSettings) → AreIdle (first_tracks more [])
first_idle [] = tt
first_idle (s ∷ more) = (record { off = refl; waiting = refl; tape = refl }, first_idle more)

first-wide : (strips more : List StripSettings) (lists : List (List Sound)) →
    AreLists strips lists → first_tracks (strips ++ more) lists ≡ first_tracks strips lists
    ++ first_tracks more []
first-wide [] more [] h = refl
first-wide [] more (list ∷ lists) h = absurd h
first-wide (s ∷ strips) more [] h = ap (λ ts. first_track [] s ∷ ts) (first-wide strips more [] h.1)
first-wide (s ∷ strips) more (list ∷ lists) h =
    ap (λ ts. first_track list s ∷ ts) (first-wide strips more lists h.1)

first-length : (strips : List StripSettings) (lists : List (List Sound)) →
    length (first_tracks strips lists) ≡ length strips
first-length [] lists = refl
first-length (s ∷ strips) [] = ap suc (first-length strips [])
first-length (s ∷ strips) (list ∷ lists) = ap suc (first-length strips lists)

pub more_loops : (settings : LooperSettings) (more : List StripSettings) (chunks : ℕ)
    (initial : List (List Sound)) (es : List Entry) (input : List Sound) →
    IsBeginning settings chunks initial → All (SpeaksOf (length settings.strips)) es →
    (run es input (start (with_more more settings) chunks initial)).output
    ≡ (run es input (start settings chunks initial)).output
more_loops settings more chunks initial es input h all =
    let l = start settings chunks initial
    in let kept = begins settings chunks initial h
    in let loops = first-length settings.strips initial
    in let selected = selects 0 l kept.looper
    in let has : HasLoops (length settings.strips) l =
    record { loops = loops; selects = omega arith }
    in ap (λ ts. let k : Looper = record l { tracks = ts } in (begun 0 es input k).output)
    (first-wide settings.strips more initial h.lengths)
    ∙ begun-wide (length settings.strips) 0 es input l (first_tracks more []) (first_idle more) has
    kept all
