-- What the layer promises of a list of carried requests, the newest first: each write counts once.
use Rattle.std.specs.Prelude.{◌≡◌, ℕ, ◌<◌, ◌≤◌, cond, List, [], ◌∷◌, ◌++◌, Some, None, Ok, Option, Result, ◌==◌, ◌≢◌}
use Rattle.protocol.specs.declared.kind.Applied.{Applied}
use Rattle.protocol.specs.declared.kind.Applied.TheVariants.{Already}
use Rattle.protocol.specs.declared.kind.Denial.{Denial}
use Rattle.protocol.specs.Histories.{Done, History}
use Rattle.once.specs.declared.layer.Once.{Once}
use Rattle.once.specs.declared.layer.Request.{Request}
use Rattle.once.specs.declared.layer.Session.{Session}
use Rattle.once.specs.Layers.{new_layer, no_session, session_of, once_applies}

-- a hub's last request in a list
abbrev pub last_by : {C : Type 0} → ℕ → List (Done (Request C)) → Option (Done (Request C))
last_by hub [] = None
last_by hub (d ∷ earlier) = cond (d.command.hub == hub) (Some d) (last_by hub earlier)

-- an entry holds the number and the answer of this request; with none it is the entry of a hub that wrote nothing
abbrev pub EntryOf : {C : Type 0} → Option (Done (Request C)) → Session → Type 0
EntryOf (Some d) s = (s.number ≡ d.command.number) × (s.answer ≡ d.answer)
EntryOf None s = s ≡ no_session

-- from the starting value: a hub's entry is the number and the answer of its last request in the list
abbrev pub EntriesAreLastWrites : {K C : Type 0} → K → (K → C → Result (Applied K) Denial) → Type 0
EntriesAreLastWrites {K} {C} start applies =
    (list : List (Done (Request C))) (v : Once K) → History (once_applies applies) (new_layer start) list v →
    (hub : ℕ) → 1 ≤ hub → hub ≤ 15 → EntryOf (last_by hub list) (session_of v.sessions hub)

-- from any value: of two requests of one hub, the later has the greater number
abbrev pub NumbersGrow : {K C : Type 0} → (K → C → Result (Applied K) Denial) → Type 0
NumbersGrow {K} {C} applies =
    (from to : Once K) (newer between older : List (Done (Request C))) (second one : Done (Request C)) →
    History (once_applies applies) from (newer ++ (second ∷ (between ++ (one ∷ older)))) to →
    second.command.hub ≡ one.command.hub → one.command.number < second.command.number

-- from any value: no two requests of a list have the same hub and number
abbrev pub NoWriteTwice : {K C : Type 0} → (K → C → Result (Applied K) Denial) → Type 0
NoWriteTwice {K} {C} applies =
    (from to : Once K) (newer between older : List (Done (Request C))) (second one : Done (Request C)) →
    History (once_applies applies) from (newer ++ (second ∷ (between ++ (one ∷ older)))) to →
    second.command.hub ≡ one.command.hub → second.command.number ≢ one.command.number

-- from any value: a request with a hub's last number, whatever it asks, was carried already, and is given
-- the answer that the list gave
abbrev pub RepeatsAreAnswered : {K C : Type 0} → (K → C → Result (Applied K) Denial) → Type 0
RepeatsAreAnswered {K} {C} applies =
    (from to : Once K) (list : List (Done (Request C))) → History (once_applies applies) from list to →
    (d : Done (Request C)) (again : Request C) → last_by again.hub list ≡ Some d → again.number ≡ d.command.number →
    once_applies applies to again ≡ Ok (Already d.answer)
