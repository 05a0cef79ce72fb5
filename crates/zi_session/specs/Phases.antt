-- Where a session is, as a phase of the machine.
use Rattle.std.specs.Prelude.{ℕ, ◌+◌, ◌-◌, Bool, true, false, [], ◌++◌, Option, Some, None, codes, decimal}
use Rattle.zi_shelf.specs.Names.{Name}
use Rattle.zi_session.specs.Machine.{Phase, Making, Filling, Settling, Renaming, Storing, Removing, Leaving, Ended, Stored, Present, Crowded, Fault}
use Rattle.zi_session.specs.declared.phase.Phase.{Phase as SessionPhase}
use Rattle.zi_session.specs.declared.phase.Phase.TheVariants.{Makes, Fills, Settles, Renames, Stores, Removes, Leaves, IsStored, IsPresent, IsCrowded, IsUnmade, IsStuck, IsFaulty}

-- the temporary names
unfoldable pub tmp_name : ℕ → Name
tmp_name n = codes "tmp-" ++ decimal n

-- the temporary name of this number; the empty text where there is none
abbrev pub blamed_name : Option ℕ → Name
blamed_name None = []
blamed_name (Some n) = tmp_name n

abbrev pub phase_of : SessionPhase → ℕ → ℕ → Phase
phase_of Makes n k = Making n
phase_of Fills n k = Filling n k
phase_of Settles n k = Settling n
phase_of Renames n k = Renaming n
phase_of Stores n k = Storing
phase_of Removes n k = Removing n
phase_of Leaves n k = Leaving
phase_of IsStored n k = Ended Stored
phase_of IsPresent n k = Ended Present
phase_of IsCrowded n k = Ended Crowded
phase_of IsUnmade n k = Ended Fault
phase_of IsStuck n k = Ended Fault
phase_of IsFaulty n k = Ended Fault

-- the text of its temporary name is kept: from the reply that the entry was made to the end, and after a failed call that named it
abbrev pub keeps_tmp : SessionPhase → Bool
keeps_tmp Fills = true
keeps_tmp Settles = true
keeps_tmp Renames = true
keeps_tmp Removes = true
keeps_tmp IsUnmade = true
keeps_tmp IsStuck = true
keeps_tmp p = false

-- the number of its temporary name, where its entry was made and hasn't been renamed or removed
abbrev pub residue_of : SessionPhase → ℕ → Option ℕ
residue_of Fills n = Some n
residue_of Settles n = Some n
residue_of Renames n = Some n
residue_of Removes n = Some n
residue_of IsStuck n = Some n
residue_of p n = None

-- the number of the temporary name that the call named at which the shelf failed
abbrev pub blamed_of : SessionPhase → ℕ → Option ℕ
blamed_of IsUnmade n = Some n
blamed_of IsStuck n = Some n
blamed_of p n = None

abbrev pub is_filling : SessionPhase → Bool
is_filling Fills = true
is_filling p = false

-- it has answered
abbrev pub is_over : SessionPhase → Bool
is_over IsStored = true
is_over IsPresent = true
is_over IsCrowded = true
is_over IsUnmade = true
is_over IsStuck = true
is_over IsFaulty = true
is_over p = false

-- At most so many steps are left, those for temporary names found taken and waits for memory aside. Of the calls that fill,
-- so many are done and so many are there.
abbrev pub left_in : SessionPhase → (done all : ℕ) → ℕ
left_in Makes k all = all + 5
left_in Fills k all = (all - k) + 4
left_in Settles k all = 4
left_in Renames k all = 3
left_in Removes k all = 2
left_in Stores k all = 1
left_in Leaves k all = 1
left_in p k all = 0
