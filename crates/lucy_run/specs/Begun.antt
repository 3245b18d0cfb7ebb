-- What a run begins with.
use Rattle.std.specs.Prelude.{◌≡◌, ◌≢◌, List, [], None}
use Rattle.lucy_host.specs.Operators.{Operator, kinds_of}
use Rattle.lucy_program.specs.declared.accepted.Accepted.{Accepted}
use Rattle.lucy_lines.specs.declared.output.OutputSpec.{OutputSpec}
use Rattle.lucy_run.specs.declared.pace.Pace.{Pace}
use Rattle.lucy_run.specs.Paces.{IsPace}
use Rattle.lucy_run.specs.Calls.{WasAccepted}
use Rattle.lucy_run.specs.Courses.{CourseView, IsCourseBegun}

-- a course of an accepted program, with these outputs and at this pace, before its first instant
pub record IsRunBegun (ops : List Operator) (a : Accepted) (pace : Pace) (outputs : List OutputSpec) (course : CourseView) : Type 0 where
  pub accepted : WasAccepted ops a
  pub pace_is : IsPace pace
  pub given : a.inputs.items ≡ [] → pace.instants ≢ None
  pub outputs_are : outputs ≡ a.outputs.items
  pub begun : IsCourseBegun (kinds_of ops) a.placed.nodes a.clocks.items a.inputs.items a.outputs.items pace course
