use Rattle.std.proofs.Common.{◌-◌, ◌^◌, ◌<◌, ◌≤◌}
use Rattle.powers.proofs.roots.floor_nth_root.Given as goal

abbrev pub invariant-loop-low : goal.invariant-loop-low
invariant-loop-low l = (l.low ^ l.n ≤ l.limit) × (l.limit < l.high ^ l.n) × (l.low < l.high) × (l.high ≤ 2 ^ l.bits)

abbrev pub decreases-loop-low : goal.decreases-loop-low
decreases-loop-low l = l.high - l.low
