-- What callers believe, in the order to read it. Of streams: items, fronts, the forms of actors, merges, lists, iterates, firings,
-- needs of items, and the laws of all these.
pub mod Items
pub mod Fronts
pub mod Forms
pub mod Merges
pub mod Lists
pub mod Iterates
pub mod Firings
pub mod Needs
pub mod Laws
-- Of events: actors, rings and their operations, runs and what decides them, states, the operations of firings, the system of a
-- plan, horizons, schedules and instants, and the laws of all these.
pub mod Systems
pub mod Runs
pub mod Deciding
pub mod States
pub mod Actors
pub mod Counted
pub mod Totals
pub mod Operations
pub mod Plans
pub mod Horizons
pub mod Schedules
pub mod Instants
pub mod RunningLaws
pub mod PlanLaws
-- Below this line stands what only serves the proofs.
pub mod Names
