mod PlaneTotals
mod SlotTables
mod MergedQuadrics
mod PlainLaws
