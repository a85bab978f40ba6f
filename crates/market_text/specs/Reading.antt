-- What the lines that were read so far keep.
use Rattle.std.specs.Prelude.{◌≡◌, ℕ, ◌<◌, ◌≤◌, ◌==◌, IsTrue, length, count_by, All, IfSome}
use Rattle.zone_graph.specs.Name.{IsName}
use Rattle.market_text.specs.declared.reader.Reader.{Reader}
use Rattle.market_text.specs.Commands.{commands_of}

-- at most 64 zones, 128 borders of these zones, 64 callers and 262144 commands, with names, and of
-- each caller as many commands as it has turns
pub record IsReading (reader : Reader) : Type 0 where
  pub range : IfSome reader.day (λ day. (23 ≤ day.hours) × (day.hours ≤ 25))
  pub some_zone : IsTrue reader.has_begun → 1 ≤ length reader.zones
  pub few_zones : length reader.zones ≤ 64
  pub few_borders : length reader.borders ≤ 128
  pub few_callers : length reader.callers ≤ 64
  pub few_turns : length reader.turns ≤ 262144
  pub zone_names : All IsName reader.zones
  pub caller_names : All IsName reader.callers
  pub ends : All (λ ends. (ends.0 < length reader.zones) × (ends.1 < length reader.zones)) reader.borders
  pub known : All (λ turn. turn < length reader.callers) reader.turns
  pub matched_roles : length reader.roles ≡ length reader.callers
  pub matched : length reader.commands ≡ length reader.callers
  pub clocked : length reader.clocks ≡ length reader.callers
  pub counted : (caller : ℕ) → caller < length reader.commands
      → length (commands_of reader.commands caller) ≡ count_by (λ turn. turn == caller) reader.turns
