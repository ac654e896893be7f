mod ListLemmas
pub mod AfterLemmas
mod LocalRuleLemmas
mod OneClassLemmas
pub mod RuleLemmas
pub mod StayLemmas
mod OutputLemmas
mod OwnValueLemmas
mod FrameLemmas
mod FormedLemmas
mod FormedPartLemmas
mod FormedChangeLemmas
mod FormedRuleLemmas
mod GrowthLemmas
mod UseLemmas
mod KeepLemmas
mod OriginLemmas
mod HouseLemmas
pub mod InductionLemmas
pub mod ReachLemmas
mod GetLemmas
mod GuardLemmas
pub mod CauseLemmas
pub mod WaitLemmas
pub mod BlockedLemmas
mod HasStepLemmas
mod ApartLemmas
pub mod ProgressLemmas
mod LookupLemmas
mod RunLemmas
mod ReadingLemmas
mod EventPlanLemmas
mod EventMemoryLemmas
mod MoverLemmas
mod RulePlanLemmas
mod WaitPlanLemmas
mod MadeLemmas
mod StatementLemmas
mod PlanningLemmas
mod PlacingLemmas
mod FormedNamesLemmas
mod InstallLemmas
mod EqualScopeLemmas
