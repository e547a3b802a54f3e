-- The files that the blocks of a save make due are its files.
use Rattle.std.proofs.Common.{◌≡◌, ◌≢◌, ◌⊎◌, ℕ, suc, ◌+◌, ◌<◌, Bool, true, false, cond, List, [], ◌∷◌, ◌++◌, length, refl, sym, ap, ap₂, ◌∙◌, arith, append_assoc, append-nil, length-append, inl, inr, eq-eqb}
use Rattle.std.specs.Prelude.{Option, Some, None, ◌==◌}
use Rattle.std.proofs.lemmas.Bool.{ne_eqb}
use Rattle.sl_base.specs.Sounds.{Sound}
use Rattle.sl_commands.specs.declared.Target.{Target}
use Rattle.sl_commands.specs.declared.Block.{Block}
use Rattle.sl_commands.specs.declared.Block.TheVariants.{Head, Part, End}
use Rattle.sl_commands.specs.Settings.{LooperSettings}
use Rattle.sl_commands.specs.Blocks.{parts_behind, parts_of_lists, first_index}
use Rattle.looper_rules.specs.Saves.{Save}
use Rattle.looper_rules.specs.SaveBlocks.{blocks_of_save}
use Rattle.loop_saver.specs.declared.ending.Ending.TheVariants.{Written}
use Rattle.loop_saver.specs.SavedFiles.{SavedFile, list_name, list_file, list_files, text_file, files_of_save}
use Rattle.loop_saver.specs.Savers.{SavingOf, behind, due_for_all, behind_all}

-- a save with this list held, so many frames of which came
abbrev pub holding : List ℕ → LooperSettings → Target → ℕ → ℕ → ℕ → List Sound → SavingOf
holding name settings target loops index frames held =
    record {
      name = name;
      settings = settings;
      underway = record { target = target; loops = loops; index = index; frames = frames };
      held = held;
      ending = Written;
    }

-- a part more of the list that is held
same_step :
    (rate save : ℕ) (name : List ℕ) (settings : LooperSettings) (target : Target)
    (loops index f : ℕ) (h frames : List Sound) (rest : List Block) →
    due_for_all rate (Some (holding name settings target loops index f h))
    (Part save index frames ∷ rest)
    ≡ due_for_all rate
    (Some (holding name settings target loops index (f + length frames) (h ++ frames))) rest
same_step rate save name settings target loops index f h frames rest =
    rw (eq-eqb index index refl) refl

-- a part of another list
other_step :
    (rate save : ℕ) (name : List ℕ) (settings : LooperSettings) (target : Target)
    (loops i index f : ℕ) (h frames : List Sound) (rest : List Block) → index ≢ i →
    due_for_all rate (Some (holding name settings target loops i f h))
    (Part save index frames ∷ rest)
    ≡ list_file rate (list_name target name i) h ++ due_for_all rate
    (Some (holding name settings target loops index (length frames) frames)) rest
other_step rate save name settings target loops i index f h frames rest other =
    rw (ne_eqb index i other) refl

-- the same save, told otherwise
same_save :
    (rate : ℕ) (name : List ℕ) (settings : LooperSettings) (target : Target) (loops index f g : ℕ)
    (h k : List Sound) (rest : List Block) → f ≡ g → h ≡ k →
    due_for_all rate (Some (holding name settings target loops index f h)) rest ≡ due_for_all rate
    (Some (holding name settings target loops index g k)) rest
same_save rate name settings target loops index f g h k rest frames held =
    ap₂ (λ n l. due_for_all rate (Some (holding name settings target loops index n l)) rest) frames
    held

-- all parts more of the list that is held
more_of :
    (rate save : ℕ) (name : List ℕ) (settings : LooperSettings) (target : Target)
    (loops index f : ℕ) (h before xs : List Sound) (rest : List Block) →
    due_for_all rate (Some (holding name settings target loops index f h))
    (parts_behind save index before xs ++ rest)
    ≡ due_for_all rate
    (Some (holding name settings target loops index (f + (length before + length xs))
    (h ++ (before ++ xs)))) rest
more_of rate save name settings target loops index f h [] [] rest =
    same_save rate name settings target loops index f (f + 0) h (h ++ []) rest (omega arith)
    (sym (append-nil h))
more_of rate save name settings target loops index f h (b ∷ bs) [] rest =
    same_step rate save name settings target loops index f h (b ∷ bs) rest
    ∙ same_save rate name settings target loops index _ _ _ _ rest (omega arith)
    (ap (λ l. h ++ l) (sym (append-nil (b ∷ bs))))
more_of rate save name settings target loops index f h before (x ∷ xs) rest =
    by_full (length before + 1 == 256)
    (more_of rate save name settings target loops index (f + length (before ++ x ∷ []))
    (h ++ (before ++ x ∷ [])) [] xs rest)
    (more_of rate save name settings target loops index f h (before ++ x ∷ []) xs rest)
  where
    size : length (before ++ x ∷ []) ≡ length before + 1
    size = length-append before (x ∷ [])

    all : List Block
    all = parts_behind save index [] xs

    by_full : (b : Bool) →
        due_for_all rate (Some
        (holding name settings target loops index (f + length (before ++ x ∷ []))
        (h ++ (before ++ x ∷ [])))) (all ++ rest)
        ≡ due_for_all rate
        (Some (holding name settings target loops index
        (f + length (before ++ x ∷ []) + (0 + length xs)) ((h ++ (before ++ x ∷ [])) ++ xs)))
        rest →
        due_for_all rate (Some (holding name settings target loops index f h))
        (parts_behind save index (before ++ x ∷ []) xs ++ rest)
        ≡ due_for_all rate
        (Some (holding name settings target loops index
        (f + (length (before ++ x ∷ []) + length xs)) (h ++ ((before ++ x ∷ []) ++ xs)))) rest →
        due_for_all rate (Some (holding name settings target loops index f h))
        (cond b (Part save index (before ++ x ∷ []) ∷ all)
        (parts_behind save index (before ++ x ∷ []) xs) ++ rest)
        ≡ due_for_all rate
        (Some (holding name settings target loops index (f + (length before + suc (length xs)))
        (h ++ (before ++ x ∷ xs)))) rest
    by_full true full longer =
        same_step rate save name settings target loops index f h (before ++ x ∷ []) (all ++ rest)
        ∙ full
        ∙ same_save rate name settings target loops index _ _ _ _ rest (omega (arith, size))
        (append_assoc h (before ++ x ∷ []) xs ∙ ap (λ l. h ++ l) (append_assoc before (x ∷ []) xs))
    by_full false full longer =
        longer ∙ same_save rate name settings target loops index _ _ _ _ rest (omega (arith, size))
        (ap (λ l. h ++ l) (append_assoc before (x ∷ []) xs))

-- all parts of another list
first_of :
    (rate save : ℕ) (name : List ℕ) (settings : LooperSettings) (target : Target)
    (loops i index f : ℕ) (h before xs : List Sound) (rest : List Block) →
    index ≢ i → 0 < length before + length xs →
    due_for_all rate (Some (holding name settings target loops i f h))
    (parts_behind save index before xs ++ rest)
    ≡ list_file rate (list_name target name i) h
    ++ due_for_all rate
    (Some (holding name settings target loops index (length before + length xs) (before ++ xs)))
    rest
first_of rate save name settings target loops i index f h [] [] rest other some =
    absurd (omega arith)
first_of rate save name settings target loops i index f h (b ∷ bs) [] rest other some =
    other_step rate save name settings target loops i index f h (b ∷ bs) rest other
    ∙ ap (λ files. list_file rate (list_name target name i) h ++ files)
    (same_save rate name settings target loops index _ _ _ _ rest (omega arith)
    (sym (append-nil (b ∷ bs))))
first_of rate save name settings target loops i index f h before (x ∷ xs) rest other some =
    by_full (length before + 1 == 256)
    (more_of rate save name settings target loops index (length (before ++ x ∷ []))
    (before ++ x ∷ []) [] xs rest)
    (first_of rate save name settings target loops i index f h (before ++ x ∷ []) xs rest other)
  where
    size : length (before ++ x ∷ []) ≡ length before + 1
    size = length-append before (x ∷ [])

    all : List Block
    all = parts_behind save index [] xs

    file : List SavedFile
    file = list_file rate (list_name target name i) h

    by_full : (b : Bool) →
        due_for_all rate (Some (holding name settings target loops index (length (before ++ x ∷ []))
        (before ++ x ∷ []))) (all ++ rest)
        ≡ due_for_all rate
        (Some (holding name settings target loops index
        (length (before ++ x ∷ []) + (0 + length xs)) ((before ++ x ∷ []) ++ xs))) rest →
        (0 < length (before ++ x ∷ []) + length xs →
        due_for_all rate (Some (holding name settings target loops i f h))
        (parts_behind save index (before ++ x ∷ []) xs ++ rest)
        ≡ file ++ due_for_all rate
        (Some (holding name settings target loops index (length (before ++ x ∷ []) + length xs)
        ((before ++ x ∷ []) ++ xs))) rest) →
        due_for_all rate (Some (holding name settings target loops i f h))
        (cond b (Part save index (before ++ x ∷ []) ∷ all)
        (parts_behind save index (before ++ x ∷ []) xs) ++ rest)
        ≡ file ++ due_for_all rate
        (Some (holding name settings target loops index (length before + suc (length xs))
        (before ++ x ∷ xs))) rest
    by_full true full longer =
        other_step rate save name settings target loops i index f h (before ++ x ∷ []) (all ++ rest)
        other
        ∙ ap (λ files. file ++ files)
        (full ∙ same_save rate name settings target loops index _ _ _ _ rest (omega (arith, size))
        (append_assoc before (x ∷ []) xs))
    by_full false full longer =
        longer (omega (arith, size))
        ∙ ap (λ files. file ++ files)
        (same_save rate name settings target loops index _ _ _ _ rest (omega (arith, size))
        (append_assoc before (x ∷ []) xs))

-- all lists from an index on: what is held is the list before them, or nothing of the first of them
-- came
lists_due :
    (rate save : ℕ) (name : List ℕ) (settings : LooperSettings) (target : Target)
    (loops i index f : ℕ) (h : List Sound) (lists : List (List Sound)) →
    (i < index) ⊎ ((i ≡ index) × (h ≡ [])) →
    due_for_all rate (Some (holding name settings target loops i f h))
    (parts_of_lists save index lists ++ End save ∷ [])
    ≡ list_file rate (list_name target name i) h
    ++ (list_files rate target name index lists ++ text_file target name settings)
lists_due rate save name settings target loops i index f h [] ready =
    append-nil (list_file rate (list_name target name i) h ++ text_file target name settings)
lists_due rate save name settings target loops i index f h ([] ∷ lists) (inl before) =
    lists_due rate save name settings target loops i (index + 1) f h lists (inl (omega arith))
lists_due rate save name settings target loops i index f h ([] ∷ lists) (inr (here, none)) =
    lists_due rate save name settings target loops i (index + 1) f h lists (inl (omega arith))
lists_due rate save name settings target loops i index f h ((x ∷ xs) ∷ lists) (inl before) =
    let parts = parts_behind save index [] (x ∷ xs) in
    let rest : List Block = parts_of_lists save (index + 1) lists ++ End save ∷ [] in
    let other : index ≢ i = omega arith in
    ap (λ bs. due_for_all rate (Some (holding name settings target loops i f h)) bs)
    (append_assoc parts (parts_of_lists save (index + 1) lists) (End save ∷ []))
    ∙ first_of rate save name settings target loops i index f h [] (x ∷ xs) rest other (omega arith)
    ∙ ap (λ files. list_file rate (list_name target name i) h ++ files)
    (lists_due rate save name settings target loops index (index + 1) (0 + suc (length xs)) (x ∷ xs)
    lists (inl (omega arith)))
lists_due rate save name settings target loops i index f h ((x ∷ xs) ∷ lists) (inr (here, none)) =
    let parts = parts_behind save index [] (x ∷ xs) in
    let rest : List Block = parts_of_lists save (index + 1) lists ++ End save ∷ [] in
    ap (λ bs. due_for_all rate (Some (holding name settings target loops i f h)) bs)
    (append_assoc parts (parts_of_lists save (index + 1) lists) (End save ∷ []))
    ∙ ap₂ (λ k l. due_for_all rate (Some (holding name settings target loops k f l))
    (parts ++ rest)) here none
    ∙ more_of rate save name settings target loops index f [] [] (x ∷ xs) rest
    ∙ lists_due rate save name settings target loops index (index + 1) (f + (0 + suc (length xs)))
    (x ∷ xs) lists (inl (omega arith))
    ∙ ap (λ l. list_file rate (list_name target name i) l
    ++ (list_files rate target name index ((x ∷ xs) ∷ lists) ++ text_file target name settings))
    (sym none)

pub files_due : (rate : ℕ) (s : Save) →
    due_for_all rate None (blocks_of_save s) ≡ files_of_save rate s
files_due rate s =
    lists_due rate s.number s.name s.settings s.target (length s.settings.strips)
    (first_index s.target) (first_index s.target) 0 [] s.lists (inr (refl, refl))

-- behind an end no save is underway
behind_all-append : (saving : Option SavingOf) (xs ys : List Block) →
    behind_all saving (xs ++ ys) ≡ behind_all (behind_all saving xs) ys
behind_all-append saving [] ys = refl
behind_all-append saving (x ∷ xs) ys = behind_all-append (behind saving x) xs ys

over_at : (saving : Option SavingOf) (save : ℕ) → behind saving (End save) ≡ None
over_at None save = refl
over_at (Some s) save = refl

pub save_over : (s : Save) → behind_all None (blocks_of_save s) ≡ None
save_over s =
    let head = Head s.number s.name s.target s.settings in
    let parts = parts_of_lists s.number (first_index s.target) s.lists in
    behind_all-append (behind None head) parts (End s.number ∷ [])
    ∙ over_at (behind_all (behind None head) parts) s.number
