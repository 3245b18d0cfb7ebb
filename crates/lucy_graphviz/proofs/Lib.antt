mod QuoteLaws
mod GraphLaws
mod NetLaws
