use Rattle.std.proofs.Common.{◌≡◌, ◌≤◌, ◌++◌, take, drop}
use Rattle.logs.specs.Logs.{live}
use Rattle.logs.proofs.write.squeeze.Given as goal

-- what stands first and what is yet to come make the live records; from w on nothing was written
abbrev pub invariant-loop-i : goal.invariant-loop-i
invariant-loop-i g l = record {
  front : l.w ≤ l.i;
  made : take l.w l.entries ++ live g.K.Key.alike (drop l.i l.entries) ≡ live g.K.Key.alike l.initial.entries;
  rest : drop l.w l.entries ≡ drop l.w l.initial.entries;
}
