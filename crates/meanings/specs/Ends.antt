-- How a run of a program ends, as a caller of an interpreter sees it.
use Rattle.std.specs.Prelude.{ℕ, List}
use Rattle.code_units.specs.declared.ends.RunEnd.{RunEnd}
use Rattle.code_units.specs.declared.ends.Shown.{Shown}
use Rattle.code_units.specs.declared.ends.End.{End as Shows}
use Rattle.code_units.specs.declared.ends.End.TheVariants as ends
use Rattle.meanings.specs.Act.{Halt, Left, Stuck}
use Rattle.meanings.specs.Runs.{Run, End, Over, Going}

-- nothing is left to do; a throw that nothing caught; or the run was cut short
pub data Ending : Type 0 where
  Done : Ending
  Threw : Shown → Ending
  Halted : Halt → Ending

-- the runs of programs, which print texts
abbrev pub ProgramRun : Type 0
ProgramRun = Run (List ℕ) Ending

abbrev pub end_of : End Ending → Shows
end_of (Over Done) = ends.Done
end_of (Over (Threw shown)) = ends.Threw shown
end_of (Over (Halted Left)) = ends.Left
end_of (Over (Halted (Stuck file at))) = ends.Stuck file at
end_of Going = ends.Spent

-- a run that was merely stopped shows as one whose steps are spent
abbrev pub run_end_of : ProgramRun → RunEnd
run_end_of run = record { output = run.texts; end = end_of run.end }
