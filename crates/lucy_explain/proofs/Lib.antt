mod TextLaws
mod LineLaws
mod FoldLaws
mod StreamLaws
mod ChainLaws
mod WaitLaws
